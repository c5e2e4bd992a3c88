-- One address changes its list and its owner: what holds of the lists, the owners, the slots and the scopes then. Assumes nothing.
use Rattle.std.proofs.Common.{◌≡◌, ℕ, ◌<◌, ◌≤◌, Bool, true, false, ltb, ◌≢◌, List, length, get_or, set, sym, refl, ap, ◌∙◌, subst, arith, get_or-set_other, get_or-set_same}
use mathlib.Core.Option.{some}
use native.Mathlib.Decide.{ℕ_discrete}
use Rattle.rules.specs.Sizes.{LISTS, SCOPES, SLOTS}
use Rattle.rules.specs.Notation.{put}
use Rattle.rules.specs.Scopes as rule
use Rattle.rules.proofs.Tables.{put_same, put_other}
use Rattle.slots.specs.Halves.{occ}
use Rattle.links.specs.Links.{Held}
use Rattle.links.proofs.Walks.{held-lists}
use Rattle.links.proofs.Moves.{Tells, lists-tell}
use Rattle.scopes.specs.View.{list_of, scope_at, scopes_from}
use Rattle.scopes.specs.Sound.{Ringed, Owned}
use Rattle.scopes.proofs.Tables.{put-ext}

-- the owners as a table
abbrev pub owners : List ℕ → ℕ → ℕ
owners owner a = get_or owner a 0

pub owners-put : (owner : List ℕ) (a o : ℕ) → a < length owner → owners (set owner a o) ≡ put (owners owner) a o
owners-put owner a o h = put-ext (owners owner) (owners (set owner a o)) a o (get_or-set_same owner a o 0 h) (λ j n. get_or-set_other owner a j o 0 n)

pub ringed : (links owner links' : List ℕ) (ys : ℕ → List ℕ) (a o : ℕ) → Ringed links owner → a < SLOTS → length owner ≡ SLOTS → o ≤ LISTS
    → Held SLOTS LISTS links' ys → Tells SLOTS LISTS (put (owners owner) a o) ys → Ringed links' (set owner a o)
ringed links owner links' ys a o h ha len ho c t =
    let e = owners-put owner a o (omega arith) in
    record {
      rings = held-lists SLOTS LISTS links' ys c;
      tells = subst (λ (f : ℕ → ℕ). Tells SLOTS LISTS f (list_of links')) (sym e) (lists-tell SLOTS LISTS links' _ ys c t);
      most = λ b hb. most b hb (ℕ_discrete b a);
    }
  where
    most : (b : ℕ) → b < SLOTS → Dec (b ≡ a) → get_or (set owner a o) b 0 ≤ LISTS
    most b hb (yes q) = rw (q, get_or-set_same owner a o 0 (omega arith)) ho
    most b hb (no n) = rw (get_or-set_other owner a b o 0 n) (h.most b hb)

pub owned : (hs owner : List ℕ) (live : List Bool) (size : ℕ) (hs' : List ℕ) (a o : ℕ) (v : Bool) (size' : ℕ) → Owned hs owner live size → a < SLOTS → length owner ≡ SLOTS
    → occ hs' ≡ put (occ hs) a v → v ≡ ltb o SCOPES → (o < SCOPES → get_or live o false ≡ true) → (o < SCOPES → a < size') → size ≤ size' → size' ≤ SLOTS
    → Owned hs' (set owner a o) live size'
owned hs owner live size hs' a o v size' h ha len slot vo alive above grows most =
    record {
      taken = λ b hb. taken b hb (ℕ_discrete b a);
      alive = λ b hb. lives b hb (ℕ_discrete b a);
      above = λ b hb. up b hb (ℕ_discrete b a);
      most = most;
    }
  where
    at : (b : ℕ) → occ hs' b ≡ put (occ hs) a v b
    at b = ap (λ (f : ℕ → Bool). f b) slot

    taken : (b : ℕ) → b < SLOTS → Dec (b ≡ a) → occ hs' b ≡ ltb (get_or (set owner a o) b 0) SCOPES
    taken b hb (yes q) = at b ∙ ap (put (occ hs) a v) q ∙ put_same (occ hs) a v ∙ vo ∙ ap (λ (x : ℕ). ltb x SCOPES) (sym (ap (λ (x : ℕ). get_or (set owner a o) x 0) q ∙ get_or-set_same owner a o 0 (omega arith)))
    taken b hb (no n) = at b ∙ put_other (occ hs) a v b (λ e. n (sym e)) ∙ h.taken b hb ∙ ap (λ (x : ℕ). ltb x SCOPES) (sym (get_or-set_other owner a b o 0 n))

    lives : (b : ℕ) → b < SLOTS → Dec (b ≡ a) → get_or (set owner a o) b 0 < SCOPES → get_or live (get_or (set owner a o) b 0) false ≡ true
    lives b hb (yes q) = rw (q, get_or-set_same owner a o 0 (omega arith)) alive
    lives b hb (no n) = rw (get_or-set_other owner a b o 0 n) (h.alive b hb)

    up : (b : ℕ) → b < SLOTS → Dec (b ≡ a) → get_or (set owner a o) b 0 < SCOPES → b < size'
    up b hb (yes q) = rw (q, get_or-set_same owner a o 0 (omega arith)) above
    up b hb (no n) = rw (get_or-set_other owner a b o 0 n) (λ l. omega (arith, h.above b hb l))

-- the scopes, where list k is another
pub scopes-other : (live dangled : List Bool) (parent number : List ℕ) (xs ys : ℕ → List ℕ) (j : ℕ) → (get_or live j false ≡ true → ys j ≡ xs j) → scopes_from live dangled parent number ys j ≡ scopes_from live dangled parent number xs j
scopes-other live dangled parent number xs ys j f = at (get_or live j false) refl
  where
    at : (b : Bool) → get_or live j false ≡ b → scopes_from live dangled parent number ys j ≡ scopes_from live dangled parent number xs j
    at true q = rw (q, f q)
    at false q = rw q

pub scopes-put : (live dangled : List Bool) (parent number : List ℕ) (xs ys : ℕ → List ℕ) (k : ℕ) (l : List ℕ) → get_or live k false ≡ true → ys k ≡ l
    → ((j : ℕ) → get_or live j false ≡ true → j ≢ k → ys j ≡ xs j)
    → scopes_from live dangled parent number ys ≡ put (scopes_from live dangled parent number xs) k (some (rule.owned≔ l (scope_at dangled parent number xs k)))
scopes-put live dangled parent number xs ys k l hk e other =
    put-ext (scopes_from live dangled parent number xs) (scopes_from live dangled parent number ys) k _ (rw (hk, e))
    (λ j n. scopes-other live dangled parent number xs ys j (λ q. other j q n))
