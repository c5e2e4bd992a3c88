-- Frames that don't look at needs do the same whatever needs there are, and leave them: 01 to 0b, 0f to 12 and 14; and 0c, 0d, 0e of a handle
-- that belongs to no need. Freeing a handle leaves the needs too. Assumes nothing.
use mathlib.Core.Path.{◌≡◌, refl, ap, ◌∙◌}
use mathlib.Core.Bool.{Bool, true, false, ◌||◌}
use mathlib.Core.List.{[]}
use Prim.Native.Nat.{ℕ, zero, suc}
use Rattle.rules.specs.Notation.{Answer, given, refused, ◌>>=◌, refuse◌when◌, provided◌then◌else◌, ◌▹◌}
use Rattle.rules.specs.Sizes.{Room}
use Rattle.rules.specs.Slots.{Placement}
use Rattle.rules.specs.Scopes.{Scopes, Found}
use Rattle.rules.specs.Needs.{Kind, goes_back, give_back, Need, defer, at, ignore, freed_need}
use Rattle.rules.specs.Frames.{Frame, child, pop, dangle, restore, pop_last, alloc, alloc_in, linear, define, get, take_from, free, free_quietly, forget, drain, write, read, read_name, new_defer, new_assigned, new_ignore, alloc_need, output_need, drop_need, is_scope_kind, Remembered, State, needs≔, needed≔, set_handle, unknown, spent, belongs, barred, allot, close, hand_back, free_as, free_handle, free_own, Line, shows, one_line, step}
use Rattle.rules.proofs.Tells.{clash}

-- a frame that doesn't look at needs
abbrev pub plain : Frame → Bool
plain child = true
plain (pop n) = true
plain (dangle n) = true
plain (restore n) = true
plain pop_last = true
plain alloc = true
plain (alloc_in n) = true
plain (linear n) = true
plain (define name h) = true
plain (get name) = true
plain (take_from name) = true
plain (free h) = false
plain (free_quietly h) = false
plain (forget h) = false
plain drain = true
plain (write h v) = true
plain (read h) = true
plain (read_name name) = true
plain (new_defer n) = false
plain (new_assigned h) = false
plain new_ignore = false
plain (alloc_need n) = false
plain (output_need n) = false
plain (drop_need n) = false

-- what was given, changed
unfoldable pub mapped : {A B : Type 0} → (A → B) → Answer A → Answer B
mapped f (given a) = given (f a)
mapped f (refused n) = refused n

module _ (needs : ℕ → Remembered) (needed : ℕ) where
  abbrev pub within : State → State
  within s = s ▹ needs≔ needs ▹ needed≔ needed

  -- the same answer, with these needs
  abbrev pub moved : {A : Type 0} → A × State → A × State
  moved r = (r.0, within r.1)

  pub record Moves {A : Type 0} (m n : Answer (A × State)) : Type 0 where
    pub is : m ≡ mapped moved n

  moves-given : {A : Type 0} {a : A} {t u : State} → u ≡ within t → Moves (given (a, u)) (given (a, t))
  unfolding mapped
  moves-given {A} {a} e = record { is = ap (λ (x : State). given (a, x)) e }

  moves-then : {A B : Type 0} (m : Answer A) {f g : A → Answer (B × State)} → ((a : A) → Moves (g a) (f a)) → Moves (m >>= g) (m >>= f)
  unfolding ◌>>=◌ mapped
  moves-then (given a) h = h a
  moves-then (refused n) h = record { is = refl }

  moves-after : {A B : Type 0} {m n : Answer (A × State)} (f g : A × State → Answer (B × State)) → Moves m n → ((r : A × State) → Moves (g (moved r)) (f r)) → Moves (m >>= g) (n >>= f)
  unfolding ◌>>=◌ mapped
  moves-after {A} {B} {m} {n = given a} f g e h = record { is = ap (λ (x : Answer (A × State)). x >>= g) e.is ∙ (h a).is }
  moves-after {A} {B} {m} {n = refused x} f g e h = record { is = ap (λ (y : Answer (A × State)). y >>= g) e.is }

  module _ (room : Room) (place : Placement) (s : State) where
    pub allot-moves : (k : Found) (kind : Kind) (n : ℕ) → Moves (allot room place k kind n (within s)) (allot room place k kind n s)
    unfolding allot
    allot-moves k kind n = moves-then _ λ _. moves-then _ λ r. moves-given refl

    moves : (f : Frame) → plain f ≡ true → Moves (step room place (within s) f) (step room place s f)
    unfolding step spent unknown set_handle close
    moves child e = moves-then _ λ r. moves-given refl
    moves (pop n) e = moves-then _ λ r. moves-given refl
    moves (dangle n) e = moves-then _ λ r. moves-given refl
    moves (restore n) e = moves-then _ λ r. moves-given refl
    moves pop_last e = moves-then _ λ r. moves-given refl
    moves alloc e = moves-then _ λ t. moves-after _ _ (allot-moves t _ 1) λ r. moves-given refl
    moves (alloc_in n) e = moves-then _ λ t. moves-after _ _ (allot-moves t _ 1) λ r. moves-given refl
    moves (linear zero) e = moves-then _ λ t. moves-given refl
    moves (linear (suc n)) e = moves-then _ λ t. moves-after _ _ (allot-moves t _ (suc n)) λ r. moves-given refl
    moves (define name h) e = moves-then _ λ t. moves-then _ λ _. moves-then _ λ c. moves-given refl
    moves (get name) e = moves-then _ λ r. moves-given refl
    moves (take_from name) e = moves-then _ λ r. moves-given refl
    moves (free h) e = clash e refl
    moves (free_quietly h) e = clash e refl
    moves (forget h) e = clash e refl
    moves drain e = moves-given refl
    moves (write h v) e = moves-then _ λ _. moves-then _ λ _. moves-given refl
    moves (read h) e = moves-then _ λ _. moves-then _ λ _. moves-then _ λ _. moves-given refl
    moves (read_name name) e = moves-then _ λ _. moves-then _ λ _. moves-then _ λ _. moves-given refl
    moves (new_defer n) e = clash e refl
    moves (new_assigned h) e = clash e refl
    moves new_ignore e = clash e refl
    moves (alloc_need n) e = clash e refl
    moves (output_need n) e = clash e refl
    moves (drop_need n) e = clash e refl

    pub apart : (f : Frame) → plain f ≡ true → step room place (within s) f ≡ mapped moved (step room place s f)
    apart f e = (moves f e).is

  module _ (s : State) where
    -- freeing a handle leaves the needs
    pub free-as-apart : (k : Kind) (dangles : Bool) (h : ℕ) → free_as k dangles h (within s) ≡ mapped within (free_as k dangles h s)
    unfolding free_as hand_back set_handle ◌>>=◌ provided◌then◌else◌ refuse◌when◌ mapped
    free-as-apart k dangles h = go (goes_back s.scopes k) refl (s.handles h).held refl (give_back dangles (s.handles h).address s.scopes) refl
      where
        go : (b : Bool) → goes_back s.scopes k ≡ b → (x : Bool) → (s.handles h).held ≡ x → (m : Answer Scopes) → give_back dangles (s.handles h).address s.scopes ≡ m
            → free_as k dangles h (within s) ≡ mapped within (free_as k dangles h s)
        go false p x q m r = rw (p, free_as)
        go true p false q m r = rw (p, q, free_as)
        go true p true q (given c) r = rw (p, q, r, free_as)
        go true p true q (refused n) r = rw (p, q, r, free_as)

    -- then a line, the state being changed by g
    pub freed-line : (k : Kind) (dangles : Bool) (h : ℕ) (g : State → State) (l : Line)
        → (free_as k dangles h (within s) >>= λ t. one_line l (g t)) ≡ mapped (λ r. (r.0, g (within r.1))) (free_as k dangles h s >>= λ t. one_line l t)
    unfolding ◌>>=◌ mapped
    freed-line k dangles h g l = ap (λ (m : Answer State). m >>= λ t. one_line l (g t)) (free-as-apart k dangles h) ∙ go (free_as k dangles h s)
      where
        go : (m : Answer State) → (mapped within m >>= λ t. one_line l (g t)) ≡ mapped (λ r. (r.0, g (within r.1))) (m >>= λ t. one_line l t)
        go (given t) = refl
        go (refused n) = refl

    -- the same of a handle that may belong to a need
    pub own_line : (h : ℕ) (d : Need) (g : State → State) (l : Line)
        → (free_own h (within s) d >>= λ t. one_line l (g t)) ≡ mapped (λ r. (r.0, g (within r.1))) (free_own h s d >>= λ t. one_line l t)
    unfolding free_own ◌>>=◌ mapped provided◌then◌else◌
    own_line h (defer id) g l = refl
    own_line h (at a) g l = go (is_scope_kind a.kind)
      where
        go : (b : Bool) → ((provided b then free_as a.kind true h (within s) else given (within s)) >>= λ t. one_line l (g t)) ≡ mapped (λ r. (r.0, g (within r.1))) ((provided b then free_as a.kind true h s else given s) >>= λ t. one_line l t)
        go true = freed-line a.kind true h g l
        go false = refl
    own_line h ignore g l = refl
    own_line h freed_need g l = refl

  -- ---- 0c, 0d, 0e of a handle that belongs to no need

  module _ (room : Room) (place : Placement) (s : State) (h : ℕ) (there : belongs (within s) h ≡ false) (here : belongs s h ≡ false) where
    freed-moves : (dangles : Bool) (l : Line) → (free_handle dangles h (within s) >>= λ t. one_line l t) ≡ mapped moved (free_handle dangles h s >>= λ t. one_line l t)
    unfolding free_handle barred spent unknown ◌>>=◌ refuse◌when◌ mapped
    freed-moves dangles l = rw (there, here, free_handle) (go (spent s h))
      where
        go : (b : Bool) → (((refuse 13 when (b || false)) >>= λ _. free_as (s.handles h).kind dangles h (within s)) >>= λ t. one_line l t) ≡ mapped moved (((refuse 13 when (b || false)) >>= λ _. free_as (s.handles h).kind dangles h s) >>= λ t. one_line l t)
        go true = refl
        go false = freed-line s (s.handles h).kind dangles h (λ t. t) l

    pub apart-free : step room place (within s) (free h) ≡ mapped moved (step room place s (free h))
    unfolding step
    apart-free = freed-moves true (shows 0x0c [])

    pub apart-quietly : step room place (within s) (free_quietly h) ≡ mapped moved (step room place s (free_quietly h))
    unfolding step
    apart-quietly = freed-moves false (shows 0x0d [])

    pub apart-forget : step room place (within s) (forget h) ≡ mapped moved (step room place s (forget h))
    unfolding step barred spent unknown set_handle
    apart-forget = rw (there, here) (moves-then _ (λ _. moves-given refl)).is
