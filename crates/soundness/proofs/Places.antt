-- The parts of soundness from what holds place by place. Assumes nothing.
use mathlib.Core.Path.{◌≡◌, sym, subst}
use mathlib.Core.Logic.{by_cases}
use mathlib.Core.Bool.{Bool}
use mathlib.Core.List.{List}
use Prim.Native.Nat.{ℕ, ◌*◌, ◌≤◌}
use native.Mathlib.Decide.{dec_lt}
use native.Mathlib.Omega.{arith}
use lib.ListN.{length, get_or}
use Rattle.rules.specs.Sizes.{base, SCOPES, SEGMENTS, SLOTS}
use Rattle.rules.specs.Sound.{sound_slots}
use Rattle.rules.specs.Tells.{Tells}
use Rattle.rules.proofs.Sound.{SlotsSound}
use Rattle.rules.proofs.Tests.{tells-slots}
use Rattle.rules.proofs.Tells.{is_false, clash, tells_as}
use Rattle.slots.specs.Halves.{occ, slots_of}
use Rattle.scopes.specs.Sound.{Slotted, Rooted, Owned}
use Rattle.soundness.specs.Parts.{Below, OwnedAt, RootedAt, Topped}
use Rattle.soundness.proofs.Climbs.{live_below}

-- ---- slots

pub slots-rule : (halves : List ℕ) (l h : ℕ) → Slotted halves l h → SlotsSound SEGMENTS (slots_of halves l h)
slots-rule halves l h s =
    record {
      segments = s.most;
      head = s.front;
      low = λ a b o. by_cases (dec_lt a (128 * l)) (λ k. k) (λ k. clash o (s.none a (omega (arith, k)) b));
    }

pub rule-slots : (halves : List ℕ) (l h : ℕ) → SlotsSound SEGMENTS (slots_of halves l h) → Slotted halves l h
rule-slots halves l h s = record { most = s.segments; front = s.head; none = λ a lo hi. is_false (occ halves a) (λ o. omega (arith, s.low a hi o, lo)) }

pub slots-tells : (halves : List ℕ) (l h : ℕ) (r : Bool) → r ≡ sound_slots base.segments (slots_of halves l h) → Tells r (Slotted halves l h)
unfolding base
slots-tells halves l h r e = tells_as (subst (λ (x : Bool). Tells x (SlotsSound SEGMENTS (slots_of halves l h))) (sym e) (tells-slots SEGMENTS (slots_of halves l h))) (rule-slots halves l h) (slots-rule halves l h)

-- ---- the addresses

pub owned-of : (halves owner : List ℕ) (live : List Bool) (size : ℕ) → size ≤ SLOTS → Below SLOTS (OwnedAt halves owner live size) → Owned halves owner live size
owned-of halves owner live size m h = record { taken = λ a l. (h a l).taken; alive = λ a l. (h a l).alive; above = λ a l. (h a l).above; most = m }

pub of-owned : (halves owner : List ℕ) (live : List Bool) (size : ℕ) → Owned halves owner live size → Below SLOTS (OwnedAt halves owner live size)
of-owned halves owner live size s a l = record { taken = s.taken a l; alive = s.alive a l; above = s.above a l }

-- ---- the scopes

module _ (live dangled : List Bool) (parent number : List ℕ) (top : ℕ) where
  pub rooted-of : length live ≡ SCOPES → Topped live top → get_or number 0 0 ≡ 0 → Below SCOPES (RootedAt live dangled parent number) → Rooted live dangled parent number top
  rooted-of len t z h =
      record {
        topped = t;
        leads = λ i l. (h i (live_below live len i l)).leads l;
        dead = λ i b l. (h i b).dead l;
        first = z;
      }
