-- A list that is read has one text: what was read, written again, is that text. Assumes nothing.
use mathlib.Core.Path.{◌≡◌, refl, sym, ap, subst, ◌∙◌}
use mathlib.Core.Bool.{Bool, true, false, ◌&&◌}
use mathlib.Core.Option.{Option, none, some}
use mathlib.Core.List.{List, [], ◌∷◌, ◌++◌, append_assoc, append-nil}
use Prim.Native.Nat.{ℕ, suc, ◌+◌, ◌*◌, ◌-◌, ◌/◌, ◌%◌, ◌<◌}
use native.Mathlib.Omega.{arith}
use lib.Dec.{eqb, ltb, leb}
use lib.ListN.{length}
use borrow.Author.Tests.{eqb-true, lt-ltb, le-ltb}
use Rattle.rules.specs.Sizes.{Room}
use Rattle.rules.specs.Slots.{Place, by_head, lowest}
use Rattle.rules.specs.Frames.{constant, next_sample, Line, stores, loads, shows}
use Rattle.rules.specs.Text.{digit, hex2, hex4, value, word, both, words, Raw, raw, Split, onto, split, Row, rowed, line_of, with1, with2, hexes, opcode_of, operands_of, line_text, list_text, counted, bare, adding, line_table, size_table, edition_two, title_table, Titled, titled, title, Listed, listed, unlisted, line_before, size_at, size_or, list_from, under_title, read_list}
use Rattle.rules.proofs.Chains.{none-some}
use Rattle.rules.proofs.Tells.{decided, tells-and, tells-le, tells-lt}

-- ---- digits

digit_value : (c : ℕ) → value c < 16 → digit (value c) ≡ c
unfolding value digit
digit_value c h =
    decided (leb 48 c && leb c 57)
    (λ e.
    let w = (tells-and (tells-le 48 c) (tells-le c 57)).holds e in
    let v : value c ≡ c - 48 = rw (e, value) in
    let l : ltb (value c) 10 ≡ true = lt-ltb (value c) 10 (omega (arith, w.0, w.1)) in
    rw (l, digit) (omega (arith, w.0)))
    (λ e. decided (leb 97 c && leb c 102)
    (λ q.
    let w = (tells-and (tells-le 97 c) (tells-le c 102)).holds q in
    let v : value c ≡ c - 87 = rw (e, q, value) in
    let l : ltb (value c) 10 ≡ false = le-ltb (value c) 10 (omega (arith, w.0)) in
    rw (l, digit) (omega (arith, w.0)))
    (λ q. absurd (let v : value c ≡ 16 = rw (e, q, value) in omega arith)))

word-exact : (a b c d n : ℕ) → word a b c d ≡ some n → hex4 n ≡ a ∷ b ∷ c ∷ d ∷ []
unfolding word hex4
word-exact a b c d n e =
    decided (ltb (value a) 16 && ltb (value b) 16 && ltb (value c) 16 && ltb (value d) 16)
    (λ q.
    let w = (tells-and (tells-and (tells-and (tells-lt (value a) 16) (tells-lt (value b) 16)) (tells-lt (value c) 16)) (tells-lt (value d) 16)).holds q in
    let r : some (value a * 4096 + value b * 256 + value c * 16 + value d) ≡ some n = rw (q, word) at e in
    let s : value a * 4096 + value b * 256 + value c * 16 + value d ≡ n = cc in
    let va = w.0.0.0 in
    let vb = w.0.0.1 in
    let vc = w.0.1 in
    let vd = w.1 in
    let x : n / 4096 ≡ value a = omega arith in
    let y : n / 256 % 16 ≡ value b = omega arith in
    let z : n / 16 % 16 ≡ value c = omega arith in
    let u : n % 16 ≡ value d = omega arith in
    rw (x, y, z, u, digit_value a va, digit_value b vb, digit_value c vc, digit_value d vd))
    (λ q. none-some (rw (q, word) at e))

words-exact : (l ns : List ℕ) → words l ≡ some ns → hexes ns ≡ l
unfolding words hexes
words-exact [] ns e = let z : [] ≡ ns = cc in subst (λ (m : List ℕ). hexes m ≡ []) z refl
words-exact (a ∷ []) ns e = none-some e
words-exact (a ∷ b ∷ []) ns e = none-some e
words-exact (a ∷ b ∷ c ∷ []) ns e = none-some e
words-exact (a ∷ b ∷ c ∷ d ∷ l) ns e = go (word a b c d) (words l) refl refl e (words-exact l)
  where
    go : (x : Option ℕ) (y : Option (List ℕ)) → word a b c d ≡ x → words l ≡ y → both x y ≡ some ns → ((ms : List ℕ) → words l ≡ some ms → hexes ms ≡ l) → hexes ns ≡ a ∷ b ∷ c ∷ d ∷ l
    go none y p q z ih = none-some z
    go (some n) none p q z ih = none-some z
    go (some n) (some ms) p q z ih =
        let w : n ∷ ms ≡ ns = cc in
        subst (λ (m : List ℕ). hexes m ≡ a ∷ b ∷ c ∷ d ∷ l) w (ap (λ (f : List ℕ). f ++ hexes ms) (word-exact a b c d n p) ∙ ap (λ (f : List ℕ). a ∷ b ∷ c ∷ d ∷ f) (ih ms q))

-- the first two digits of four are 0
two_digits : (a b o : ℕ) → hex4 o ≡ 48 ∷ 48 ∷ a ∷ b ∷ [] → o < 256 → hex2 o ≡ a ∷ b ∷ []
unfolding hex2 hex4
two_digits a b o e h =
    let x : digit (o / 16 % 16) ≡ a = cc in
    let y : digit (o % 16) ≡ b = cc in
    let z : o / 16 % 16 ≡ o / 16 = omega arith in
    let w : digit (o / 16) ≡ a = ap digit (sym z) ∙ x in
    cc

opcode-small : (a b o : ℕ) → word 48 48 a b ≡ some o → o < 256
unfolding word value
opcode-small a b o e =
    decided (ltb (value a) 16 && ltb (value b) 16)
    (λ q.
    let w = (tells-and (tells-lt (value a) 16) (tells-lt (value b) 16)).holds q in
    let r : some (0 * 4096 + 0 * 256 + value a * 16 + value b) ≡ some o = rw (q, word) at e in
    let s : 0 * 4096 + 0 * 256 + value a * 16 + value b ≡ o = cc in
    omega (arith, w.0, w.1))
    (λ q. none-some (rw (q, word) at e))

pub raw-exact : (l : List ℕ) (r : Raw) → raw l ≡ some r → hex2 r.opcode ++ hexes r.operands ≡ l
unfolding raw
raw-exact [] r e = none-some e
raw-exact (a ∷ []) r e = none-some e
raw-exact (a ∷ b ∷ l) r e = go (word 48 48 a b) (words l) refl refl
  where
    go : (x : Option ℕ) (y : Option (List ℕ)) → word 48 48 a b ≡ x → words l ≡ y → hex2 r.opcode ++ hexes r.operands ≡ a ∷ b ∷ l
    go none y p q = none-some (rw (p, raw) at e)
    go (some o) none p q = none-some (rw (p, q, raw) at e)
    go (some o) (some ns) p q =
        let z : some (record { opcode = o; operands = ns }) ≡ some r = rw (p, q, raw) at e in
        let w : record { opcode = o; operands = ns } ≡ r = cc in
        subst (λ (x : Raw). hex2 x.opcode ++ hexes x.operands ≡ a ∷ b ∷ l) w
        (ap (λ (f : List ℕ). f ++ hexes ns) (two_digits a b o (word-exact 48 48 a b o p) (opcode-small a b o p)) ∙ ap (λ (f : List ℕ). a ∷ b ∷ f) (words-exact l ns q))

-- ---- rows

-- what a row makes has its opcode and its operands
abbrev Keeps : Row Line → Type 0
Keeps w = (l : List ℕ) (x : Line) → w.made l ≡ some x → (opcode_of x ≡ w.opcode) × (operands_of x ≡ l)

data Exact : List (Row Line) → Type 0 where
  no_rows : Exact []
  rows : {w : Row Line} {ws : List (Row Line)} → Keeps w → Exact ws → Exact (w ∷ ws)

rowed-exact : {t : List (Row Line)} → Exact t → (r : Raw) (x : Line) → rowed t r ≡ some x → (opcode_of x ≡ r.opcode) × (operands_of x ≡ r.operands)
unfolding rowed
rowed-exact no_rows r x e = none-some e
rowed-exact (rows {w = w} {ws = ws} h more) r x e = go (eqb w.opcode r.opcode) refl (rowed-exact more r x)
  where
    go : (b : Bool) → eqb w.opcode r.opcode ≡ b → (rowed ws r ≡ some x → (opcode_of x ≡ r.opcode) × (operands_of x ≡ r.operands)) → (opcode_of x ≡ r.opcode) × (operands_of x ≡ r.operands)
    go true p ih = let k = h r.operands x (rw (p, rowed) at e) in (k.0 ∙ eqb-true w.opcode r.opcode p, k.1)
    go false p ih = ih (rw (p, rowed) at e)

bare-exact : (o : ℕ) → (l : List ℕ) (x : Line) → bare o l ≡ some x → (opcode_of x ≡ o) × (operands_of x ≡ l)
bare-exact o [] x e = let z : shows o [] ≡ x = cc in subst (λ (y : Line). (opcode_of y ≡ o) × (operands_of y ≡ [])) z (refl, refl)
bare-exact o (a ∷ l) x e = none-some e

adding-exact : (o : ℕ) → (l : List ℕ) (x : Line) → adding o l ≡ some x → (opcode_of x ≡ o) × (operands_of x ≡ l)
adding-exact o [] x e = none-some e
adding-exact o (a ∷ []) x e = let z : shows o (a ∷ []) ≡ x = cc in subst (λ (y : Line). (opcode_of y ≡ o) × (operands_of y ≡ a ∷ [])) z (refl, refl)
adding-exact o (a ∷ b ∷ l) x e = none-some e

loads-exact : (o : ℕ) → (l : List ℕ) (x : Line) → with1 (loads o) l ≡ some x → (opcode_of x ≡ o) × (operands_of x ≡ l)
loads-exact o [] x e = none-some e
loads-exact o (a ∷ []) x e = let z : loads o a ≡ x = cc in subst (λ (y : Line). (opcode_of y ≡ o) × (operands_of y ≡ a ∷ [])) z (refl, refl)
loads-exact o (a ∷ b ∷ l) x e = none-some e

constant-exact : (l : List ℕ) (x : Line) → with2 (λ a v. stores a (constant v)) l ≡ some x → (opcode_of x ≡ 0x10) × (operands_of x ≡ l)
constant-exact [] x e = none-some e
constant-exact (a ∷ []) x e = none-some e
constant-exact (a ∷ b ∷ []) x e = let z : stores a (constant b) ≡ x = cc in subst (λ (y : Line). (opcode_of y ≡ 0x10) × (operands_of y ≡ a ∷ b ∷ [])) z (refl, refl)
constant-exact (a ∷ b ∷ c ∷ l) x e = none-some e

sample-exact : (l : List ℕ) (x : Line) → with1 (λ a. stores a next_sample) l ≡ some x → (opcode_of x ≡ 0x14) × (operands_of x ≡ l)
sample-exact [] x e = none-some e
sample-exact (a ∷ []) x e = let z : stores a next_sample ≡ x = cc in subst (λ (y : Line). (opcode_of y ≡ 0x14) × (operands_of y ≡ a ∷ [])) z (refl, refl)
sample-exact (a ∷ b ∷ l) x e = none-some e

counted-exact : (o : ℕ) → (l : List ℕ) (x : Line) → counted o l ≡ some x → (opcode_of x ≡ o) × (operands_of x ≡ l)
counted-exact o [] x e = none-some e
counted-exact o (n ∷ l) x e =
    decided (eqb (length l) n)
    (λ q. let y : some (shows o (n ∷ l)) ≡ some x = rw (q, counted) at e in let z : shows o (n ∷ l) ≡ x = cc in subst (λ (y : Line). (opcode_of y ≡ o) × (operands_of y ≡ n ∷ l)) z (refl, refl))
    (λ q. none-some (rw (q, counted) at e))

line-rows : Exact line_table
unfolding line_table
line-rows =
    rows (adding-exact 0x01) (rows (bare-exact 0x02) (rows (bare-exact 0x03) (rows (bare-exact 0x04) (rows (bare-exact 0x05)
    (rows (adding-exact 0x06) (rows (adding-exact 0x07) (rows (adding-exact 0x08) (rows (bare-exact 0x09) (rows (adding-exact 0x0a)
    (rows (adding-exact 0x0b) (rows (bare-exact 0x0c) (rows (bare-exact 0x0d) (rows (bare-exact 0x0e) (rows (counted-exact 0x0f)
    (rows constant-exact (rows (loads-exact 0x11) (rows (loads-exact 0x12) (rows sample-exact (rows (adding-exact 0x20)
    (rows (adding-exact 0x21) (rows (adding-exact 0x22) (rows (adding-exact 0x23) (rows (adding-exact 0x24) (rows (bare-exact 0x25) no_rows))))))))))))))))))))))))

-- ---- a line of a list

-- a line that a table reads, by what its raw digits say
raw_of : {A : Type 0} {P : Type 0} (t : List (Row A)) (s : Split) (x : A) → line_of t s ≡ some x
    → ((r : Raw) → s.ended ≡ true → hex2 r.opcode ++ hexes r.operands ≡ s.text → rowed t r ≡ some x → P) → P
unfolding line_of
raw_of {P = P} t s x e k = go s.ended (raw s.text) refl refl
  where
    go : (b : Bool) (o : Option Raw) → s.ended ≡ b → raw s.text ≡ o → P
    go false o p q = none-some (rw (p, line_of) at e)
    go true none p q = none-some (rw (p, q, line_of) at e)
    go true (some r) p q = k r p (raw-exact s.text r q) (rw (p, q, line_of) at e)

-- a line with LF behind it, or what is left of a text without one
abbrev line_bytes : Split → List ℕ
line_bytes s = s.text ++ elim s.ended [ true ↦ 10 ∷ [] | false ↦ [] ]

written-line : (s : Split) (o : ℕ) (l : List ℕ) → s.ended ≡ true → hex2 o ++ hexes l ≡ s.text → line_bytes s ≡ hex2 o ++ (hexes l ++ (10 ∷ []))
written-line s o l p q = rw p (ap (λ (t : List ℕ). t ++ (10 ∷ [])) (sym q) ∙ append_assoc (hex2 o) (hexes l) (10 ∷ []))

line-exact : (s : Split) (x : Line) → line_of line_table s ≡ some x → line_bytes s ≡ line_text x
unfolding line_text
line-exact s x e =
    raw_of line_table s x e (λ r p q y.
    let k = rowed-exact line-rows r x y in
    written-line s r.opcode r.operands p q ∙ sym (ap (λ (n : ℕ). hex2 n ++ (hexes r.operands ++ (10 ∷ []))) k.0) ∙ sym (ap (λ (l : List ℕ). hex2 (opcode_of x) ++ (hexes l ++ (10 ∷ []))) k.1))

-- a table of one row
one-row : {A : Type 0} {P : Type 0} (o : ℕ) (m : List ℕ → Option A) (r : Raw) (x : A) → rowed (record { opcode = o; made = m } ∷ []) r ≡ some x → (o ≡ r.opcode → m r.operands ≡ some x → P) → P
unfolding rowed
one-row {P = P} o m r x e k = go (eqb o r.opcode) refl
  where
    go : (b : Bool) → eqb o r.opcode ≡ b → P
    go true p = k (eqb-true o r.opcode p) (rw (p, rowed) at e)
    go false p = none-some (rw (p, rowed) at e)

one_number : (l : List ℕ) (n : ℕ) → with1 {A = ℕ} (λ a. a) l ≡ some n → l ≡ n ∷ []
one_number [] n e = none-some e
one_number (a ∷ []) n e = let z : a ≡ n = cc in ap (λ (b : ℕ). b ∷ []) z
one_number (a ∷ b ∷ l) n e = none-some e

size_exact : (s : Split) (n : ℕ) → line_of size_table s ≡ some n → line_bytes s ≡ line_text (shows 0x90 (n ∷ []))
unfolding line_text size_table
size_exact s n e =
    raw_of size_table s n e (λ r p q y.
    one-row 0x90 (with1 (λ a. a)) r n y (λ o m.
    written-line s r.opcode r.operands p q ∙ ap (λ (k : ℕ). hex2 k ++ (hexes r.operands ++ (10 ∷ []))) (sym o) ∙ ap (λ (l : List ℕ). hex2 0x90 ++ (hexes l ++ (10 ∷ []))) (one_number r.operands n m)))

two-only : (l : List ℕ) (p : Place) → edition_two l ≡ some p → (l ≡ 2 ∷ []) × (p ≡ lowest)
two-only [] p e = none-some e
two-only (n ∷ []) p e =
    decided (eqb n 2)
    (λ q. let z : some lowest ≡ some p = rw (q, edition_two) at e in (ap (λ (a : ℕ). a ∷ []) (eqb-true n 2 q), cc))
    (λ q. none-some (rw (q, edition_two) at e))
two-only (n ∷ m ∷ l) p e = none-some e

title-exact : (s : Split) (p : Place) → line_of title_table s ≡ some p → (line_bytes s ≡ line_text (shows 0xf0 (2 ∷ []))) × (p ≡ lowest)
unfolding line_text title_table
title-exact s p e =
    raw_of title_table s p e (λ r x q y.
    one-row 0xf0 edition_two r p y (λ o m.
    let w = two-only r.operands p m in
    (written-line s r.opcode r.operands x q ∙ ap (λ (k : ℕ). hex2 k ++ (hexes r.operands ++ (10 ∷ []))) (sym o) ∙ ap (λ (l : List ℕ). hex2 0xf0 ++ (hexes l ++ (10 ∷ []))) w.0, w.1)))

-- ---- a list

unfoldable pub joined : List Split → List ℕ
joined [] = []
joined (l ∷ ls) = line_bytes l ++ joined ls

joined-onto : (c : ℕ) (ls : List Split) → joined (onto c ls) ≡ c ∷ joined ls
unfolding joined
joined-onto c [] = refl
joined-onto c (l ∷ ls) = refl

-- a text is its lines one after another
joined-split : (s : List ℕ) → joined (split s) ≡ s
unfolding joined split
joined-split [] = refl
joined-split (c ∷ cs) = go (eqb c 10) refl (joined-split cs)
  where
    go : (b : Bool) → eqb c 10 ≡ b → joined (split cs) ≡ cs → joined (split (c ∷ cs)) ≡ c ∷ cs
    go true e ih = rw (e, split) (let z : 10 ≡ c = sym (eqb-true c 10 e) in ap (λ (t : List ℕ). 10 ∷ t) ih ∙ ap (λ (x : ℕ). x ∷ cs) z)
    go false e ih = rw (e, split) (joined-onto c (split cs) ∙ ap (λ (t : List ℕ). c ∷ t) ih)

-- a text whose first line is a title begins with the title's bytes
pub title-begins : (s : List ℕ) (k : Split) (ks : List Split) (p : Place) → split s ≡ k ∷ ks → line_of title_table k ≡ some p → s ≡ line_text (shows 0xf0 (2 ∷ [])) ++ joined ks
unfolding joined
title-begins s k ks p e q = sym (joined-split s) ∙ rw e (ap (λ (t : List ℕ). t ++ joined ks) (title-exact k p q).0)

pub not_listed : {P : Type 0} {m j n : ℕ} {ls : List Line} → unlisted m j ≡ listed ls n → P
not_listed e = absurd (let z : ◌≡◌ {A = ℕ} 0 1 = cc in omega arith)

module _ (room : Room) where
  lines-exact : (ks : List Split) (i : ℕ) (ls : List Line) (size : ℕ) → list_from room i ks ≡ listed ls size → joined ks ≡ list_text ls size
  unfolding list_from joined list_text
  lines-exact [] i ls size e = not_listed e
  lines-exact (k ∷ ks) i ls size e = go (line_of size_table k) (line_of line_table k) (eqb i room.lines) refl refl e (lines-exact ks (suc i))
    where
      last : (n : ℕ) (rest : List Split) → line_of size_table k ≡ some n → size_at room i n rest ≡ listed ls size → line_bytes k ++ joined rest ≡ list_text ls size
      last n [] p x = decided (leb n room.size)
          (λ q.
          let y : listed [] n ≡ listed ls size = rw (q, size_at) at x in
          let a : [] ≡ ls = cc in
          let b : n ≡ size = cc in
          append-nil (line_bytes k) ∙ size_exact k n p ∙ (λ u. list_text (a u) (b u)))
          (λ q. not_listed (rw (q, size_at) at x))
      last n (r ∷ rest) p x = not_listed x

      on : (l : Line) (r : Listed) → line_of line_table k ≡ some l → list_from room (suc i) ks ≡ r → line_before i (some l) r ≡ listed ls size
          → ((ms : List Line) (n : ℕ) → list_from room (suc i) ks ≡ listed ms n → joined ks ≡ list_text ms n) → line_bytes k ++ joined ks ≡ list_text ls size
      on l (unlisted m j) p q x ih = not_listed x
      on l (listed ms n) p q x ih =
          let a : l ∷ ms ≡ ls = cc in
          let b : n ≡ size = cc in
          ap (λ (t : List ℕ). t ++ joined ks) (line-exact k l p) ∙ ap (λ (t : List ℕ). line_text l ++ t) (ih ms n q) ∙ (λ u. list_text (a u) (b u))

      go : (z : Option ℕ) (o : Option Line) (b : Bool) → line_of size_table k ≡ z → line_of line_table k ≡ o
          → size_or room i z ks (elim b [ true ↦ unlisted 2 i | false ↦ line_before i o (list_from room (suc i) ks) ]) ≡ listed ls size
          → ((ms : List Line) (n : ℕ) → list_from room (suc i) ks ≡ listed ms n → joined ks ≡ list_text ms n) → line_bytes k ++ joined ks ≡ list_text ls size
      go (some n) o b p q x ih = last n ks p x
      go none o true p q x ih = not_listed x
      go none none false p q x ih = not_listed x
      go none (some l) false p q x ih = on l (list_from room (suc i) ks) q refl x ih

  under-exact : (p : Place) (r : Listed) (ks : List Split) (ls : List Line) (size : ℕ) → ((ms : List Line) → r ≡ listed ms size → joined ks ≡ list_text ms size) → under_title (title p) r ≡ listed ls size
      → (above : List ℕ) → ((ms : List Line) → above ++ list_text ms size ≡ list_text (title p ++ ms) size) → above ++ joined ks ≡ list_text ls size
  under-exact p (unlisted m j) ks ls size h e above w = not_listed e
  under-exact p (listed ms n) ks ls size h e above w =
      let a : title p ++ ms ≡ ls = cc in
      let b : n ≡ size = cc in
      ap (λ (t : List ℕ). above ++ t) (h ms (ap (listed ms) b)) ∙ w ms ∙ ap (λ (l : List Line). list_text l size) a

  abbrev behind : Titled → Listed
  behind t = under_title (title t.place) (list_from room (length (title t.place)) t.rest)

  -- a list that is read is the text of its lines and its size
  pub list-exact : (list : List ℕ) (ls : List Line) (size : ℕ) → read_list room list ≡ listed ls size → list ≡ list_text ls size
  unfolding read_list titled joined list_text
  list-exact list ls size e = sym (joined-split list) ∙ whole (split list) e
    where
      whole : (ks : List Split) → behind (titled ks) ≡ listed ls size → joined ks ≡ list_text ls size
      whole [] x = under-exact by_head (list_from room 0 []) [] ls size (λ ms q. lines-exact [] 0 ms size q) x [] (λ ms. refl)
      whole (k ∷ ks) x = go (line_of title_table k) refl
        where
          go : (o : Option Place) → line_of title_table k ≡ o → line_bytes k ++ joined ks ≡ list_text ls size
          go none q = under-exact by_head (list_from room 0 (k ∷ ks)) (k ∷ ks) ls size (λ ms y. lines-exact (k ∷ ks) 0 ms size y) (rw (q, titled) at x) [] (λ ms. refl)
          go (some p) q =
              let w = title-exact k p q in
              let z : behind (record { place = lowest; rest = ks }) ≡ listed ls size = ap (λ (u : Place). behind (record { place = u; rest = ks })) (sym w.1) ∙ (rw (q, titled) at x) in
              under-exact lowest (list_from room 1 ks) ks ls size (λ ms y. lines-exact ks 1 ms size y) z (line_bytes k) (λ ms. ap (λ (t : List ℕ). t ++ list_text ms size) w.0)
