-- No accepted script's list is longer than 11 bytes a frame, 4 for each handle, and 7: what is drained was allocated since it was last
-- drained. Assumes nothing.
use mathlib.Core.Path.{◌≡◌, refl, ap, subst}
use mathlib.Core.Bool.{Bool, true, false}
use mathlib.Core.Option.{Option, none, some}
use mathlib.Core.List.{List, [], ◌∷◌, ◌++◌}
use Prim.Native.Nat.{ℕ, zero, suc, ◌+◌, ◌*◌, ◌≤◌}
use native.Mathlib.Omega.{arith}
use borrow.Author.Tests.{not-false}
use lib.ListN.{length, length-append}
use Rattle.rules.specs.Notation.{given, refused, ◌▹◌, put}
use Rattle.rules.specs.Sizes.{Room}
use Rattle.rules.specs.Slots.{Placement}
use Rattle.rules.specs.AddressSets.{without, added, added_all, run}
use Rattle.rules.specs.Scopes.{Scope, Scopes, top≔, dangling≔, owned≔, new_scope, Found, top_scope, by_number, set_scope, open_child, allocate, closed, poppable, last_poppable, dangle_scope, restore_scope, bind_in, take_name, drain_dangling}
use Rattle.rules.specs.Needs.{Kind, give_back, Need, defer, at, ignore, freed_need}
use Rattle.rules.specs.Frames.{State, scopes≔, Frame, child, pop, dangle, restore, pop_last, alloc, alloc_in, linear, define, get, take_from, free, free_quietly, forget, drain, constant, next_sample, write, read, read_name, new_defer, new_assigned, new_ignore, alloc_need, output_need, drop_need, Line, shows, set_handle, allot, close, hand_back, free_as, free_handle, Remembered, no_need, needs≔, needed≔, set_need, add_need, allot_need, slot_shown, free_own, step, Step, before, onward, Outcome, accepted, refused_at, steps}
use Rattle.rules.specs.Sound.{sum_below, owned_by}
use Rattle.rules.specs.Text.{operands_of, line_text, list_text}
use Rattle.rules.proofs.Chains.{All, all-given, all_then, all-when, all-unless, all-if}
use Rattle.rules.proofs.Naming.{Here, found_here, top-here, id-here, number-here}
use Rattle.rules.proofs.Sound.{StateSound}
use Rattle.rules.proofs.Lengths.{added_all-length, without_all-length, without-shorter, run_length, sum-put, sum-grows, line-length}

-- how many bytes the lines take
unfoldable pub lines_length : List Line → ℕ
lines_length [] = 0
lines_length (l ∷ ls) = length (line_text l) + lines_length ls

abbrev listed : Option Scope → ℕ
listed o = length (owned_by o)

-- what may still be drained: the dangling addresses, and those that live scopes own
unfoldable pub owing : Room → Scopes → ℕ
owing room c = length c.dangling + sum_below (λ i. listed (c.live i)) room.scopes

back-length : (d : Bool) (a : ℕ) (l : List ℕ) → length {A = ℕ} (elim d [ true ↦ added a l | false ↦ l ]) ≤ suc (length l)
unfolding added_all
back-length true a l = omega (arith, added_all-length (a ∷ []) l)
back-length false a l = omega arith

-- ---- library calls

module _ (room : Room) (c : Scopes) where
  grown : (k : Found) (x : Scope) (d : ℕ) → length x.owned ≤ listed (c.live k.index) + d
      → sum_below (λ i. listed ((set_scope k x c).live i)) room.scopes ≤ sum_below (λ i. listed (c.live i)) room.scopes + d
  unfolding set_scope
  grown k x d h = sum-grows listed c.live k.index (some x) d room.scopes h

  child-owes : All (λ r. owing room r.1 ≤ owing room c) (open_child room c)
  unfolding open_child owing
  child-owes =
      all-unless 3 λ t _. all-unless 8 λ i _.
      all-given (omega (arith, sum-grows listed c.live i (some (new_scope c.counter c.top)) 0 room.scopes (omega arith)))

  -- a scope that owns what it owned
  same-owes : (k : Found) (x : Scope) (t : Option ℕ) → Here room.scopes c.live k → x.owned ≡ k.scope.owned → owing room (c ▹ set_scope k x ▹ top≔ t) ≤ owing room c
  unfolding owing set_scope
  same-owes k x t p e = omega (arith, grown k x 0 (rw (p.is, e) (omega arith)))

  dangle-owes : (o : Option Found) → ((k : Found) → o ≡ some k → Here room.scopes c.live k) → All (λ d. owing room d ≤ owing room c) (dangle_scope o c)
  unfolding dangle_scope
  dangle-owes o p = all-unless 4 λ k e. all-when 5 _ λ _. all-given (same-owes k _ _ (p k e) refl)

  restore-owes : (o : Option Found) → ((k : Found) → o ≡ some k → Here room.scopes c.live k) → All (λ d. owing room d ≤ owing room c) (restore_scope o c)
  unfolding restore_scope
  restore-owes o p = all-unless 4 λ k e. all-when 5 _ λ _. all-given (same-owes k _ _ (p k e) refl)

  allocate-owes : (place : Placement) (k : Found) (n : ℕ) → Here room.scopes c.live k → All (λ r. owing room r.1 ≤ owing room c + n) (allocate place k n c)
  unfolding allocate owing set_scope
  allocate-owes place k n p =
      all-unless 7 λ q _.
      let more = run q.address n in
      all-given (omega (
        arith,
        without_all-length more c.dangling,
        grown k (k.scope ▹ owned≔ (added_all more k.scope.owned)) n (rw p.is (omega (arith, added_all-length more k.scope.owned, run_length n q.address))),
      ))

  close-owes : (k : Found) → Here room.scopes c.live k → owing room (closed k c) ≤ owing room c
  unfolding closed owing
  close-owes k p =
      let e : listed (c.live k.index) ≡ length k.scope.owned = ap listed p.is in
      omega (arith, added_all-length k.scope.owned c.dangling, sum-put listed c.live k.index none room.scopes p.below)

  -- an address goes from its owner's list to the dangling list, or to none
  back-owes : (dangles : Bool) (a : ℕ) → ((k : Found) → top_scope c ≡ some k → Here room.scopes c.live k) → All (λ d. owing room d ≤ owing room c) (give_back dangles a c)
  unfolding give_back owing set_scope
  back-owes dangles a p =
      all-unless 12 λ t e. all-when 12 _ λ m.
      let q = p t e in
      let l : listed (c.live t.index) ≡ length t.scope.owned = ap listed q.is in
      all-given (omega (
        arith,
        back-length dangles a c.dangling,
        sum-put listed c.live t.index (some (t.scope ▹ owned≔ (without a t.scope.owned))) room.scopes q.below,
        without-shorter a t.scope.owned (not-false _ m),
      ))

-- ---- a step

-- A frame's lines are paid for by its own 11 bytes, by what is owed less after it, and by 4 bytes a new handle.
pub record Pays (room : Room) (s : State) (ls : List Line) (t : State) : Type 0 where
  pub covers : lines_length ls + 4 * owing room t.scopes + 4 * s.handed ≤ 11 + 4 * owing room s.scopes + 4 * t.handed

module _ (room : Room) (place : Placement) (s : State) (sound : StateSound room s) where
  tops : (k : Found) → top_scope s.scopes ≡ some k → Here room.scopes s.scopes.live k
  tops k e = top-here s.scopes k e room.scopes sound.scopes.top

  numbers : (n : ℕ) (k : Found) → by_number room s.scopes n ≡ some k → Here room.scopes s.scopes.live k
  numbers n k e = number-here room s.scopes n k e

  roots : All (Here room.scopes s.scopes.live) (last_poppable room s.scopes)
  unfolding last_poppable
  roots =
      all-unless 3 λ t e. all-unless 3 λ k q. all-when 6 _ λ _.
      all-given (found_here room.scopes s.scopes.live 0 k (omega (arith, (tops t e).below)) q)

  -- a short line, no new handles, and nothing owed more
  short : (l : Line) (t : State) → length (operands_of l) ≤ 2 → owing room t.scopes ≤ owing room s.scopes → t.handed ≡ s.handed → Pays room s (l ∷ []) t
  unfolding lines_length
  short l t few o e = record { covers = omega (arith, line-length l) }

  allot-pays : (k : Found) (kind : Kind) (n : ℕ) (l : ℕ → Line) → Here room.scopes s.scopes.live k → ((a : ℕ) → length (operands_of (l a)) ≤ 2)
      → All (λ r. Pays room s (l r.0 ∷ []) r.1) (allot room place k kind n s)
  unfolding allot lines_length
  allot-pays k kind n l p few =
      all-when 16 _ λ _. all_then λ r e.
      all-given (record { covers = omega (arith, line-length (l r.0), few r.0, (allocate-owes room s.scopes place k n p).at r e) })

  free-as-pays : (k : Kind) (dangles : Bool) (h o : ℕ) → All (Pays room s (shows o [] ∷ [])) (free_as k dangles h s)
  unfolding free_as hand_back set_handle
  free-as-pays k dangles h o =
      all-if
      (λ _. all-when 14 _ λ _. all_then λ c e. all-given (short _ _ (omega arith) ((back-owes room s.scopes dangles _ tops).at c e) refl))
      (λ _. all-given (short _ _ (omega arith) (omega arith) refl))

  free-pays : (dangles : Bool) (h o : ℕ) → All (Pays room s (shows o [] ∷ [])) (free_handle dangles h s)
  unfolding free_handle
  free-pays dangles h o = all-when 13 _ λ _. free-as-pays (s.handles h).kind dangles h o

  with-needs : {ls : List Line} {t : State} (needs : ℕ → Remembered) (needed : ℕ) → Pays room s ls t → Pays room s ls (t ▹ needs≔ needs ▹ needed≔ needed)
  with-needs needs needed p = record { covers = p.covers }

  add-pays : (x : Remembered) (o a : ℕ) → All (Pays room s (shows o (a ∷ []) ∷ [])) (add_need room x s)
  unfolding add_need set_need
  add-pays x o a = all-when 22 _ λ _. all-given (with-needs (put s.needs s.needed x) (s.needed + 1) (short _ s (omega arith) (omega arith) refl))

  need-pays : (n : ℕ) (d : Need) → All (λ r. Pays room s (shows 0x23 (slot_shown r.0 ∷ []) ∷ []) r.1) (allot_need room place n s d)
  unfolding allot_need set_need
  need-pays n (defer id) =
      all-unless 4 λ k q. all_then λ r e.
      all-given (with-needs (put r.1.needs n _) r.1.needed ((allot-pays k _ 1 (λ a. shows 0x23 (a ∷ [])) (id-here room s.scopes id k q) (λ a. omega arith)).at r e))
  need-pays n (at a) = all-given (with-needs (put s.needs n _) s.needed (short _ s (omega arith) (omega arith) refl))
  need-pays n ignore = all-given (short _ s (omega arith) (omega arith) refl)
  need-pays n freed_need = all-given (short _ s (omega arith) (omega arith) refl)

  own-pays : (h : ℕ) (d : Need) → All (Pays room s (shows 0x25 [] ∷ [])) (free_own h s d)
  unfolding free_own
  own-pays h (defer id) = all-given (short _ s (omega arith) (omega arith) refl)
  own-pays h (at a) = all-if (λ _. free-as-pays a.kind true h 0x25) (λ _. all-given (short _ s (omega arith) (omega arith) refl))
  own-pays h ignore = all-given (short _ s (omega arith) (omega arith) refl)
  own-pays h freed_need = all-given (short _ s (omega arith) (omega arith) refl)

  bind-owes : (t : Found) (name address handle : ℕ) → All (λ c. owing room c ≤ owing room s.scopes) (bind_in room t name address handle s.scopes)
  unfolding bind_in owing
  bind-owes t name address handle = all-when 9 _ λ _. all-given (omega arith)

  take-owes : (name : ℕ) → All (λ r. owing room r.1 ≤ owing room s.scopes) (take_name room name s.scopes)
  unfolding take_name owing
  take-owes name = all_then λ b _. all-given (omega arith)

  drain-pays : Pays room s (shows 0x0f (length s.scopes.dangling ∷ s.scopes.dangling) ∷ []) (s ▹ scopes≔ (s.scopes ▹ dangling≔ []))
  unfolding lines_length owing
  drain-pays = record { covers = omega (arith, line-length (shows 0x0f (length s.scopes.dangling ∷ s.scopes.dangling))) }

  popped : (n : ℕ) → All (Here room.scopes s.scopes.live) (poppable room (by_number room s.scopes n) s.scopes)
  unfolding poppable
  popped n = all-unless 4 λ k e. all-when 5 _ λ _. all-when 6 _ λ _. all-given (numbers n k e)

  pub pays : (f : Frame) → All (λ r. Pays room s r.0 r.1) (step room place s f)
  unfolding step set_handle set_need close drain_dangling
  pays child = all_then λ r e. all-given (short _ _ (omega arith) ((child-owes room s.scopes).at r e) refl)
  pays (pop n) = all_then λ k e. all-given (short _ _ (omega arith) (close-owes room s.scopes k ((popped n).at k e)) refl)
  pays (dangle n) = all_then λ c e. all-given (short _ _ (omega arith) ((dangle-owes room s.scopes _ (numbers n)).at c e) refl)
  pays (restore n) = all_then λ c e. all-given (short _ _ (omega arith) ((restore-owes room s.scopes _ (numbers n)).at c e) refl)
  pays pop_last = all_then λ k e. all-given (short _ _ (omega arith) (close-owes room s.scopes k (roots.at k e)) refl)
  pays alloc = all-unless 3 λ t e. all_then λ r q. all-given ((allot-pays t _ 1 (λ a. shows 0x06 (a ∷ [])) (tops t e) (λ a. omega arith)).at r q)
  pays (alloc_in n) = all-unless 4 λ k e. all_then λ r q. all-given ((allot-pays k _ 1 (λ a. shows 0x07 (a ∷ [])) (numbers n k e) (λ a. omega arith)).at r q)
  pays (linear zero) = all-unless 3 λ t _. all-given (short _ _ (omega arith) (omega arith) refl)
  pays (linear (suc n)) = all-unless 3 λ t e. all_then λ r q. all-given ((allot-pays t _ (suc n) (λ a. shows 0x08 (a ∷ [])) (tops t e) (λ a. omega arith)).at r q)
  pays (define name h) = all-unless 3 λ t _. all-when 13 _ λ _. all_then λ c e. all-given (short _ _ (omega arith) ((bind-owes t name _ h).at c e) refl)
  pays (get name) = all_then λ b _. all-given (short _ _ (omega arith) (omega arith) refl)
  pays (take_from name) = all_then λ r e. all-given (short _ _ (omega arith) ((take-owes name).at r e) refl)
  pays (free h) = all_then λ t e. all-given ((free-pays true h 0x0c).at t e)
  pays (free_quietly h) = all_then λ t e. all-given ((free-pays false h 0x0d).at t e)
  pays (forget h) = all-when 13 _ λ _. all-given (short _ _ (omega arith) (omega arith) refl)
  pays drain = all-given drain-pays
  pays (write h (constant v)) = all-when 13 _ λ _. all-when 14 _ λ _. all-given (short _ _ (omega arith) (omega arith) refl)
  pays (write h next_sample) = all-when 13 _ λ _. all-when 14 _ λ _. all-given (short _ _ (omega arith) (omega arith) refl)
  pays (read h) = all-when 13 _ λ _. all-when 14 _ λ _. all-when 15 _ λ _. all-given (short _ _ (omega arith) (omega arith) refl)
  pays (read_name name) = all_then λ b _. all-when 14 _ λ _. all-when 15 _ λ _. all-given (short _ _ (omega arith) (omega arith) refl)
  pays (new_defer n) = all-unless 4 λ k _. all_then λ t e. all-given ((add-pays _ 0x20 _).at t e)
  pays (new_assigned h) = all-when 13 _ λ _. all_then λ t e. all-given ((add-pays _ 0x21 _).at t e)
  pays new_ignore = all_then λ t e. all-given ((add-pays _ 0x22 _).at t e)
  pays (alloc_need n) = all-when 21 _ λ _. all_then λ r e. all-given ((need-pays n (s.needs n).need).at r e)
  pays (output_need n) = all-when 21 _ λ _. all_then λ o _. all-given (short _ _ (omega arith) (omega arith) refl)
  pays (drop_need n) = all-when 21 _ λ _. all_then λ t e. all-given (with-needs (put t.needs n no_need) t.needed ((own-pays (s.needs n).handle (s.needs n).need).at t e))

-- ---- a script

lines-before : (ls more : List Line) (size : ℕ) → length (list_text (ls ++ more) size) ≡ lines_length ls + length (list_text more size)
unfolding list_text lines_length
lines-before [] more size = omega arith
lines-before (l ∷ ls) more size = simp length-append (omega (arith, lines-before ls more size))

last_line : (size : ℕ) → length (list_text [] size) ≡ 7
unfolding list_text
last_line size = line-length (shows 0x90 (size ∷ []))

-- what is behind an accepted script's first lines
record Rest (ls : List Line) (o : Outcome) (all : List Line) (size : ℕ) : Type 0 where
  more : List Line
  went : o ≡ accepted more size
  whole : ls ++ more ≡ all

rest : (ls : List Line) (o : Outcome) (all : List Line) (size : ℕ) → before ls o ≡ accepted all size → Rest ls o all size
rest ls (accepted more n) all size e = record { more = more; went = cc; whole = cc }
rest ls (refused_at n i) all size e = absurd (let z : ◌≡◌ {A = ℕ} 0 1 = cc in omega arith)

module _ (room : Room) (place : Placement) (keeps : (s : State) → StateSound room s → (f : Frame) → All (λ r. StateSound room r.1) (step room place s f)) where
  one_more_lem : (f : Frame) (fs : List Frame) (i : ℕ) (s : State) (ls : List Line) (size : ℕ) → StateSound room s → (a : Step) → step room place s f ≡ a
      → onward i a (λ t. steps room place (suc i) t fs) ≡ accepted ls size
      → ((t : State) (more : List Line) → StateSound room t → steps room place (suc i) t fs ≡ accepted more size
      → length (list_text more size) + 4 * t.handed ≤ 7 + 11 * length fs + 4 * owing room t.scopes + 4 * room.handles)
      → length (list_text ls size) + 4 * s.handed ≤ 7 + 11 * suc (length fs) + 4 * owing room s.scopes + 4 * room.handles
  unfolding onward
  one_more_lem f fs i s ls size h (refused n) q x ih = absurd (let z : ◌≡◌ {A = ℕ} 0 1 = cc in omega arith)
  one_more_lem f fs i s ls size h (given r) q x ih =
      let l = rest r.0 (steps room place (suc i) r.1 fs) ls size x in
      let p = (pays room place s h f).at r q in
      subst (λ (y : List Line). length (list_text y size) + 4 * s.handed ≤ 7 + 11 * suc (length fs) + 4 * owing room s.scopes + 4 * room.handles) l.whole
      (omega (arith, lines-before r.0 l.more size, p.covers, ih r.1 l.more ((keeps s h f).at r q) l.went))

  pub list_length : (fs : List Frame) (i : ℕ) (s : State) (ls : List Line) (size : ℕ) → StateSound room s → steps room place i s fs ≡ accepted ls size
      → length (list_text ls size) + 4 * s.handed ≤ 7 + 11 * length fs + 4 * owing room s.scopes + 4 * room.handles
  unfolding steps
  list_length [] i s ls size h e =
      let el : [] ≡ ls = cc in
      subst (λ (l : List Line). length (list_text l size) + 4 * s.handed ≤ 7 + 11 * 0 + 4 * owing room s.scopes + 4 * room.handles) el (omega (arith, last_line size, h.handles.few))
  list_length (f ∷ fs) i s ls size h e = one_more_lem f fs i s ls size h (step room place s f) refl e (λ t more k q. list_length fs (suc i) t more size k q)
