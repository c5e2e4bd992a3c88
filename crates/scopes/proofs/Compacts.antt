-- The bindings of a scope go; the others keep their order. Assumes nothing.
use Rattle.std.proofs.Common.{◌≡◌, ℕ, ◌+◌, ◌-◌, replicate, drop, length-append, length-drop, length-take-le, ◌/◌, ◌<◌, ◌≤◌, Bool, true, false, eqb, ◌≢◌, List, [], ◌∷◌, ◌++◌, map, length, get_or, take, set, refl, ap, ◌∙◌, append-nil, add-one, arith, length-set, get_or-set_other, take-suc, take-suc-set, eq-eqb, ne_eqb}
use mathlib.Core.Logic.{by_cases}
use native.Mathlib.Decide.{ℕ_discrete, dec_lt}
use borrow.Rule.Slice.PartMut.{put_mid}
use Rattle.std.proofs.lemmas.Slice.{take-put_mid_below}
use Rattle.std.proofs.lemmas.List.{get_or_append_left, get_or-append_right, get_or-drop, get_or-replicate, length-replicate}
use Rattle.rules.specs.Sizes.{BINDINGS}
use Rattle.rules.specs.Scopes as rule
use Rattle.scopes.specs.View.{binding, bindings_of, SCOPE_PART}
use Rattle.scopes.specs.Leaves.{Wiped}

abbrev unless : Bool → ℕ → List ℕ → List ℕ
unless true x xs = xs
unless false x xs = x ∷ xs

abbrev pub kept : ℕ → List ℕ → List ℕ
kept i [] = []
kept i (b ∷ l) = unless (eqb (b / SCOPE_PART) i) b (kept i l)

pub kept-is : (i : ℕ) (l : List ℕ) → map binding (kept i l) ≡ rule.unbound i (map binding l)
unfolding rule.unbound
kept-is i [] = refl
kept-is i (b ∷ l) =
    by_cases (ℕ_discrete (b / SCOPE_PART) i)
    (λ e. rw (eq-eqb (b / SCOPE_PART) i e, rule.unbound) (kept-is i l))
    (λ n. rw (ne_eqb (b / SCOPE_PART) i n, rule.unbound) (ap (λ (t : List _). binding b ∷ t) (kept-is i l)))

kept_append : (i : ℕ) (l : List ℕ) (b : ℕ) → kept i (l ++ (b ∷ [])) ≡ kept i l ++ kept i (b ∷ [])
kept_append i [] b = refl
kept_append i (x ∷ l) b =
    by_cases (ℕ_discrete (x / SCOPE_PART) i)
    (λ e. rw (eq-eqb (x / SCOPE_PART) i e) (kept_append i l b))
    (λ n. rw (ne_eqb (x / SCOPE_PART) i n) (ap (λ (t : List ℕ). x ∷ t) (kept_append i l b)))

-- j bindings are passed, and w of them kept
pub record Passed (old : List ℕ) (count i : ℕ) (new : List ℕ) (w j : ℕ) : Type 0 where
  pub long : length new ≡ BINDINGS
  pub within : (w ≤ j) × (j ≤ count)
  pub front : take w new ≡ kept i (take j old)
  pub ahead : (k : ℕ) → j ≤ k → get_or new k 0 ≡ get_or old k 0

pub passed_none : (old : List ℕ) (count i : ℕ) → length old ≡ BINDINGS → Passed old count i old 0 0
passed_none old count i l = record { long = l; within = (omega arith, omega arith); front = refl; ahead = λ k _. refl }

module _ (old : List ℕ) (count i : ℕ) (lo : length old ≡ BINDINGS) (hc : count ≤ BINDINGS) (new : List ℕ) (w j : ℕ) (h : Passed old count i new w j) (hj : j < count) where
  pub passed-keep : get_or new j 0 / SCOPE_PART ≢ i → Passed old count i (set new w (get_or new j 0)) (w + 1) (j + 1)
  passed-keep n =
      record {
        long = length-set new w (get_or new j 0) ∙ h.long;
        within = (omega (arith, h.within.0), omega arith);
        front = rw (add-one w, add-one j, take-suc-set new w (get_or new j 0) (omega (arith, h.long, h.within.0)), take-suc old j 0 (omega arith), kept_append i (take j old) (get_or old j 0), ← h.ahead j (omega arith), ne_eqb (get_or new j 0 / SCOPE_PART) i n, h.front);
        ahead = λ k l. get_or-set_other new w k (get_or new j 0) 0 (omega (arith, h.within.0)) ∙ h.ahead k (omega arith);
      }

  pub passed-drop : get_or new j 0 / SCOPE_PART ≡ i → Passed old count i new w (j + 1)
  passed-drop e =
      record {
        long = h.long;
        within = (omega (arith, h.within.0), omega arith);
        front = rw (add-one j, take-suc old j 0 (omega arith), kept_append i (take j old) (get_or old j 0), ← h.ahead j (omega arith), eq-eqb (get_or new j 0 / SCOPE_PART) i e, append-nil) h.front;
        ahead = λ k l. h.ahead k (omega arith);
      }

-- ---- the places that are left over

pub wiped : (old : List ℕ) (from to : ℕ) (zs : List ℕ) → from ≤ to → to ≤ BINDINGS → length old ≡ BINDINGS → zs ≡ replicate (to - from) 0 → Wiped old from to (put_mid from (to - from) old zs)
wiped old from to zs a b l e =
    let n : length zs ≡ to - from = ap length e ∙ length-replicate (to - from) 0 in
    let f : length (take from old) ≡ from = length-take-le from old (omega arith) in
    let rest : List ℕ = drop (to - from) (drop from old) in
    record {
      long =
          let d : length rest ≡ length old - from - (to - from) = length-drop (to - from) (drop from old) ∙ ap (λ (x : ℕ). x - (to - from)) (length-drop from old) in
          let m : length (zs ++ rest) ≡ length zs + length rest = length-append zs rest in
          length-append (take from old) (zs ++ rest) ∙ omega (arith, f, m, n, d);
      front = take-put_mid_below from (to - from) old zs from (omega arith) (omega arith);
      zeros = λ k x y.
          get_or-append_right (take from old) (zs ++ rest) from k 0 f x
          ∙ get_or_append_left zs rest 0 (k - from) (omega arith)
          ∙ ap (λ (x : List ℕ). get_or x (k - from) 0) e
          ∙ get_or-replicate {A = ℕ} (to - from) (k - from) 0 0 (omega arith);
      ahead = λ k x.
          let at : from + (to - from + (k - from - (to - from))) ≡ k = omega arith in
          get_or-append_right (take from old) (zs ++ rest) from k 0 f (omega arith)
          ∙ get_or-append_right zs rest (to - from) (k - from) 0 n (omega arith)
          ∙ get_or-drop (to - from) (drop from old) (k - from - (to - from)) 0
          ∙ get_or-drop from old (to - from + (k - from - (to - from))) 0
          ∙ ap (λ (i : ℕ). get_or old i 0) at;
    }

-- all are passed, w are kept, and the places from there on are wiped
module _ (old : List ℕ) (count i : ℕ) (new : List ℕ) (w j : ℕ) (l : count ≤ j) (h : Passed old count i new w j) (last : List ℕ) (g : Wiped new w count last) where
  pub bindings-left : bindings_of last w ≡ rule.unbound i (bindings_of old count)
  bindings-left =
      let e : j ≡ count = omega (arith, h.within.1) in
      ap (map binding) (g.front ∙ h.front ∙ ap (λ (k : ℕ). kept i (take k old)) e) ∙ kept-is i (take count old)

  pub clear-left : ((k : ℕ) → count ≤ k → get_or old k 0 ≡ 0) → (k : ℕ) → w ≤ k → get_or last k 0 ≡ 0
  clear-left c k a = by_cases (dec_lt k count) (λ b. g.zeros k a b) (λ b. g.ahead k (omega arith) ∙ h.ahead k (omega (arith, h.within.1)) ∙ c k (omega arith))
