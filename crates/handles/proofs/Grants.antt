-- One handle more is handed out: the next handle, for the next slot. Assumes nothing.
use mathlib.Core.Path.{◌≡◌, refl, sym, ap, subst, ◌∙◌}
use mathlib.Core.Bool.{false}
use mathlib.Core.Logic.{◌⊎◌, inl, inr, by_cases}
use mathlib.Core.List.{List}
use Prim.Native.Nat.{ℕ, ◌+◌, ◌%◌, ◌≤◌, ◌<◌}
use native.Mathlib.Omega.{arith}
use native.Mathlib.Decide.{dec_lt}
use lib.Dec.{eqb}
use lib.ListN.{length, get_or, set}
use lib.Seq.{get_or-set_same, get_or-set_other}
use Rattle.rules.specs.Sizes.{HANDLES, SLOTS}
use Rattle.rules.specs.Needs.{Kind}
use Rattle.handles.specs.Handles.{slot_in, kind_in, HandsOut}
use Rattle.handles.specs.declared.Handles.{Handles}

-- a table with x at place k: what is asked of the places from `first` on, `i` of them and then one more
module _ (t : List ℕ) (first i x : ℕ) (fits : first + i < length t) (P : ℕ → ℕ → Type 0) where
  pub one_more_lem : ((j : ℕ) → j < i → P j (get_or t (first + j) 0)) → P i x → (j : ℕ) → j < i + 1 → P j (get_or (set t (first + i) x) (first + j) 0)
  one_more_lem old new j l =
      by_cases (dec_lt j i)
      (λ h. rw (get_or-set_other t (first + i) (first + j) x 0 (omega arith)) (old j h))
      (λ h. let e : j ≡ i = omega arith in rw (e, get_or-set_same t (first + i) x 0 fits) new)

module _ (t u : List ℕ) (first i x : ℕ) where
  pub still : ((g : ℕ) → (g < first) ⊎ (first + i ≤ g) → get_or t g 0 ≡ get_or u g 0) → (g : ℕ) → (g < first) ⊎ (first + (i + 1) ≤ g) → get_or (set t (first + i) x) g 0 ≡ get_or u g 0
  still old g (inl l) = get_or-set_other t (first + i) g x 0 (omega arith) ∙ old g (inl l)
  still old g (inr l) = get_or-set_other t (first + i) g x 0 (omega arith) ∙ old g (inr (omega arith))

-- i of them were handed out: all but that their count isn't raised yet
pub record Hands (t u : Handles) (i a : ℕ) (kind : Kind) : Type 0 where
  pub slots : (j : ℕ) → j < i → slot_in (get_or u.table (t.handed + j) 0) ≡ a + j
  pub kinds : (j : ℕ) → j < i → kind_in (get_or u.table (t.handed + j) 0) ≡ kind
  pub unwritten : (j : ℕ) → j < i → eqb (get_or u.table (t.handed + j) 0 % 2) 1 ≡ false
  pub others : (g : ℕ) → (g < t.handed) ⊎ (t.handed + i ≤ g) → get_or u.table g 0 ≡ get_or t.table g 0
  pub holds : (j : ℕ) → j < i → get_or u.holders (a + j) 0 ≡ t.handed + j
  pub held-others : (b : ℕ) → (b < a) ⊎ (a + i ≤ b) → get_or u.holders b 0 ≡ get_or t.holders b 0

abbrev pub with_one : Handles → (h b a : ℕ) → Handles
with_one u h b a = record { table = set u.table h b; holders = set u.holders a h; handed = u.handed }

module _ {t u : Handles} {i a : ℕ} {kind : Kind} (hands : Hands t u i a kind) (b h : ℕ) (is : h ≡ t.handed + i) (room : h < length u.table) (low : a + i < length u.holders)
    (slot : slot_in b ≡ a + i) (kinds : kind_in b ≡ kind) (unwritten : eqb (b % 2) 1 ≡ false) where
  pub hands_more : Hands t (with_one u h b (a + i)) (i + 1) a kind
  hands_more = subst (λ (g : ℕ). Hands t (with_one u g b (a + i)) (i + 1) a kind) (sym is) (record {
    slots = one_more_lem u.table t.handed i b (omega arith) (λ j x. slot_in x ≡ a + j) hands.slots slot;
    kinds = one_more_lem u.table t.handed i b (omega arith) (λ j x. kind_in x ≡ kind) hands.kinds kinds;
    unwritten = one_more_lem u.table t.handed i b (omega arith) (λ j x. eqb (x % 2) 1 ≡ false) hands.unwritten unwritten;
    others = still u.table t.table t.handed i b hands.others;
    holds = one_more_lem u.holders a i (t.handed + i) low (λ j x. x ≡ t.handed + j) hands.holds refl;
    held-others = still u.holders t.holders a i (t.handed + i) hands.held-others;
  })

pub hands_none : (t : Handles) (a : ℕ) (kind : Kind) → Hands t t 0 a kind
hands_none t a kind = record {
  slots = λ i l. absurd (omega arith);
  kinds = λ i l. absurd (omega arith);
  unwritten = λ i l. absurd (omega arith);
  others = λ g _. refl;
  holds = λ i l. absurd (omega arith);
  held-others = λ b _. refl;
}

-- .. and n of them with the count raised
pub hands-all : {t u : Handles} {a b : ℕ} {kind : Kind} (i n : ℕ) → i ≤ n → n ≤ i → a ≡ b → u.handed ≡ t.handed → length u.table ≡ HANDLES → length u.holders ≡ SLOTS → Hands t u i a kind
    → HandsOut t n b kind (record { table = u.table; holders = u.holders; handed = u.handed + n })
hands-all {t} {u} {a} {b} {kind} i n l m e same long long' h =
    let some : Hands t u n a kind = subst (λ (k : ℕ). Hands t u k a kind) (omega arith) h in
    let all : Hands t u n b kind = subst (λ (k : ℕ). Hands t u n k kind) e some in
    record {
      slots = all.slots;
      kinds = all.kinds;
      unwritten = all.unwritten;
      others = all.others;
      holds = all.holds;
      held-others = all.held-others;
      handed = ap (λ (k : ℕ). k + n) same;
      handles-length = long;
      holders-length = long';
    }
