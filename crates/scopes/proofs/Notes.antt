-- Where each scope binds a name: one walk over the bindings, from the last to the first. Assumes nothing.
use Rattle.std.proofs.Common.{◌≡◌, ℕ, zero, suc, ◌+◌, ◌/◌, ◌%◌, ◌<◌, ◌≤◌, Bool, true, false, eqb, ◌≢◌, List, length, get_or, take, set, replicate, sym, ◌∙◌, subst, add-one, arith, get_or-set_other, get_or-set_same, eq-eqb, ne_eqb}
use mathlib.Core.Logic.{by_cases}
use native.Mathlib.Decide.{dec_lt, ℕ_discrete}
use lib.ListN.{get_or-replicate}
use Rattle.rules.specs.Sizes.{BINDINGS, SCOPES, WORD}
use Rattle.scopes.specs.View.{NAME_PART, SCOPE_PART}
use Rattle.scopes.specs.Leaves.{Spot, Placed, binds, Earliest, Noted}
use Rattle.scopes.proofs.Tables.{and_both, and-false}
use Rattle.scopes.proofs.Bindings.{Missed, missed_more, spot-none, spot-some}

module _ (f : ℕ → Bool) (to : ℕ) where
  -- nothing passes on the way back to `from`
  earlier : (from mid r : ℕ) → from ≤ mid → ((j : ℕ) → from ≤ j → j < mid → f j ≡ false) → Earliest f mid to r → Earliest f from to r
  earlier from mid r l n h =
      record {
        most = h.most;
        inside = λ z. let w = h.inside z in (omega arith, w.1, w.2);
        before = λ j a b z. by_cases (dec_lt j mid) (λ q. n j a q) (λ q. h.before j (omega (arith, q)) b z);
      }

  here : (from : ℕ) → from < to → to ≤ BINDINGS → f from ≡ true → Earliest f from to from
  here from l h e = record { most = omega arith; inside = λ _. (omega arith, l, e); before = λ j a b z. absurd (omega arith) }

module _ (bindings : List ℕ) (name : ℕ) where
  -- ---- the test of a name, and of a scope

  pub other_name : (i j : ℕ) → get_or bindings j 0 / NAME_PART % WORD ≢ name → binds bindings name i j ≡ false
  other_name i j n = rw (ne_eqb (get_or bindings j 0 / NAME_PART % WORD) name n) (and-false (eqb (get_or bindings j 0 / SCOPE_PART) i))

  other-scope : (i j : ℕ) → get_or bindings j 0 / SCOPE_PART ≢ i → binds bindings name i j ≡ false
  other-scope i j n = rw (ne_eqb (get_or bindings j 0 / SCOPE_PART) i n)

  -- ---- the walk

  module _ (count : ℕ) (hc : count ≤ BINDINGS) where
    pub noted-none : Noted bindings name count count (replicate SCOPES BINDINGS)
    noted-none i l = rw (get_or-replicate {A = ℕ} SCOPES i BINDINGS 0 l) (record { most = omega arith; inside = λ z. absurd (omega arith); before = λ j a b z. absurd (omega arith) })

    pub noted-skip : (from mid : ℕ) (places : List ℕ) → from ≤ mid → ((i j : ℕ) → i < SCOPES → from ≤ j → j < mid → binds bindings name i j ≡ false) → Noted bindings name mid count places → Noted bindings name from count places
    noted-skip from mid places l n h i a = earlier (binds bindings name i) count from mid (get_or places i 0) l (λ j. n i j a) (h i a)

    -- one binding: of another name, of no scope's index, or noted
    module _ (j : ℕ) (hj : j < count) (places : List ℕ) (h : Noted bindings name (j + 1) count places) where
      passed : (i : ℕ) → i < SCOPES → binds bindings name i j ≡ false → Earliest (binds bindings name i) j count (get_or places i 0)
      passed i a n = earlier (binds bindings name i) count j (j + 1) (get_or places i 0) (omega arith) (λ k l z. let e : j ≡ k = omega arith in subst (λ (x : ℕ). binds bindings name i x ≡ false) e n) (h i a)

      pub noted-name : get_or bindings j 0 / NAME_PART % WORD ≢ name → Noted bindings name j count places
      noted-name n i a = passed i a (other_name i j n)

      pub noted-over : SCOPES ≤ get_or bindings j 0 / SCOPE_PART → Noted bindings name j count places
      noted-over n i a = passed i a (other-scope i j (λ e. omega arith))

      pub noted_here : length places ≡ SCOPES → get_or bindings j 0 / NAME_PART % WORD ≡ name → (i : ℕ) → i ≡ get_or bindings j 0 / SCOPE_PART → i < SCOPES → Noted bindings name j count (set places i j)
      noted_here long e i q l k a =
          by_cases (ℕ_discrete i k)
          (λ p. subst (λ (x : ℕ). Earliest (binds bindings name x) j count (get_or (set places i j) x 0)) p
          (rw (get_or-set_same places i j 0 (omega arith)) (here (binds bindings name i) count j hj hc (and_both _ _ (eq-eqb (get_or bindings j 0 / SCOPE_PART) i (sym q)) (eq-eqb (get_or bindings j 0 / NAME_PART % WORD) name e)))))
          (λ p. rw (get_or-set_other places i k j 0 (λ z. p (sym z))) (passed k a (other-scope k j (λ r. p (q ∙ r)))))

    -- ---- the whole walk

    module _ (long : length bindings ≡ BINDINGS) where
      missed_to : (i k : ℕ) → k ≤ count → ((j : ℕ) → j < k → binds bindings name i j ≡ false) → Missed i name (take k (take count bindings))
      missed_to i zero l n = tt
      missed_to i (suc k) l n = rw (add-one k) at (missed_more i name bindings count long hc k (omega arith) (missed_to i k (omega arith) (λ j q. n j (omega arith))) (n k (omega arith)))

      pub noted-all : (places : List ℕ) → Noted bindings name 0 count places → Placed bindings count name places
      noted-all places h i a =
          let e = h i a in
          by_cases (dec_lt (get_or places i 0) BINDINGS)
          (λ q. let w = e.inside q in spot-some i name bindings count long hc (get_or places i 0) w.1 (missed_to i (get_or places i 0) (omega arith) (λ j z. e.before j (omega arith) (omega arith) z)) w.2)
          (λ q. let z : BINDINGS ≡ get_or places i 0 = omega (arith, e.most, q) in subst (Spot bindings count i name) z (spot-none i name bindings count long hc count (omega arith) (missed_to i count (omega arith) (λ j y. e.before j (omega arith) y (omega arith)))))
