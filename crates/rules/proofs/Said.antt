-- What a frame does to names, and what it does to boxes, doesn't depend on where allocations go: a step that is given does to the blank
-- scopes what `said` does, which places nothing. Assumes nothing.
use mathlib.Core.Path.{◌≡◌, refl, sym, ap, ◌∙◌, fun_ext}
use mathlib.Core.Bool.{Bool, true, false}
use mathlib.Core.Option.{Option, some}
use mathlib.Core.List.{List}
use Prim.Native.Nat.{ℕ, zero, suc}
use Rattle.rules.specs.Notation.{Answer, given, ◌>>=◌, refuse◌unless◌, ◌▹◌, put}
use Rattle.rules.specs.Sizes.{Room}
use Rattle.rules.specs.Slots.{Placement}
use Rattle.rules.specs.Scopes.{Scope, Scopes, live≔, owned≔, Found, top_scope, by_number, set_scope, open_child, allocate, closed, poppable, last_poppable, dangle_scope, restore_scope, bind_in, take_name, drain_dangling}
use Rattle.rules.specs.Needs.{Kind, give_back, Need, defer, at, ignore, freed_need}
use Rattle.rules.specs.Frames.{Frame, child, pop, dangle, restore, pop_last, alloc, alloc_in, linear, define, get, take_from, free, free_quietly, forget, drain, write, read, read_name, new_defer, new_assigned, new_ignore, alloc_need, output_need, drop_need, Remembered, State, scopes≔, start, set_handle, allot, close, hand_back, free_as, free_handle, set_need, add_need, allot_need, free_own, Line, step}
use Rattle.rules.specs.Meaning.{show_bound, deed}
use Rattle.rules.proofs.Chains.{All, all-given, all_then, all-when, all-unless, all-if, unless-some}
use Rattle.rules.proofs.Tables.{put-alike}
use Rattle.rules.proofs.Naming.{top-at, id-here}
use Rattle.rules.proofs.Blanks.{then-given, blank_live, blank, top-blank, by-number-at, child-blank, pop-blank, last-blank, dangle-blank, restore-blank, closed-blank, bind-blank, get-blank, take-blank}

-- what a frame does to the scopes' names
unfoldable pub said : Room → Scopes → Frame → Answer Scopes
said room c child = do
  r ← open_child room c
  given r.1
said room c (pop n) = do
  k ← poppable room (by_number room c n) c
  given (closed k c)
said room c (dangle n) = dangle_scope (by_number room c n) c
said room c (restore n) = restore_scope (by_number room c n) c
said room c pop_last = do
  k ← last_poppable room c
  given (closed k c)
said room c alloc = given c
said room c (alloc_in n) = given c
said room c (linear n) = given c
said room c (define name h) = do
  t ← refuse 3 unless (top_scope c)
  bind_in room t name 0 h c
said room c (get name) = given c
said room c (take_from name) = do
  r ← take_name room name c
  given r.1
said room c (free h) = given c
said room c (free_quietly h) = given c
said room c (forget h) = given c
said room c drain = given c
said room c (write h v) = given c
said room c (read h) = given c
said room c (read_name name) = given c
said room c (new_defer n) = given c
said room c (new_assigned h) = given c
said room c new_ignore = given c
said room c (alloc_need n) = given c
said room c (output_need n) = given c
said room c (drop_need n) = given c

-- ---- what places and gives back leaves the names

-- a scope whose list alone changed
owned-blank : (live : ℕ → Option Scope) (k : Found) (l : List ℕ) → live k.index ≡ some k.scope
    → ◌≡◌ {A = ℕ → Option Scope} (λ j. blank_live (put live k.index (some (k.scope ▹ owned≔ l)) j)) (λ j. blank_live (live j))
owned-blank live k l e = fun_ext (λ j. put-alike live k.index (some (k.scope ▹ owned≔ l)) blank_live (ap blank_live (sym e)) j)

module _ (c : Scopes) where
  allocate-blank : (place : Placement) (k : Found) (n : ℕ) → c.live k.index ≡ some k.scope → All (λ r. blank c ≡ blank r.1) (allocate place k n c)
  unfolding allocate set_scope
  allocate-blank place k n e = all-unless 7 λ p _. all-given (ap (λ (l : ℕ → Option Scope). blank c ▹ live≔ l) (sym (owned-blank c.live k _ e)))

  back-blank : (dangles : Bool) (a : ℕ) → All (λ d. blank c ≡ blank d) (give_back dangles a c)
  unfolding give_back set_scope
  back-blank dangles a = all-unless 12 λ t e. all-when 12 _ λ _. all-given (ap (λ (l : ℕ → Option Scope). blank c ▹ live≔ l) (sym (owned-blank c.live t _ (top-at c t e).1)))

module _ (room : Room) (place : Placement) (s : State) where
  allot-blank : (k : Found) (kind : Kind) (n : ℕ) → s.scopes.live k.index ≡ some k.scope → All (λ r. blank s.scopes ≡ blank r.1.scopes) (allot room place k kind n s)
  unfolding allot
  allot-blank k kind n e = all-when 16 _ λ _. all_then λ r q. all-given ((allocate-blank s.scopes place k n e).at r q)

  free-as-blank : (k : Kind) (dangles : Bool) (h : ℕ) → All (λ t. blank s.scopes ≡ blank t.scopes) (free_as k dangles h s)
  unfolding free_as hand_back set_handle
  free-as-blank k dangles h = all-if (λ _. all-when 14 _ λ _. all_then λ c q. all-given ((back-blank s.scopes dangles _).at c q)) (λ _. all-given refl)

  free-blank : (dangles : Bool) (h : ℕ) → All (λ t. blank s.scopes ≡ blank t.scopes) (free_handle dangles h s)
  unfolding free_handle
  free-blank dangles h = all-when 13 _ λ _. free-as-blank (s.handles h).kind dangles h

  add-blank : (x : Remembered) → All (λ t. blank s.scopes ≡ blank t.scopes) (add_need room x s)
  unfolding add_need set_need
  add-blank x = all-when 22 _ λ _. all-given refl

  need-blank : (n : ℕ) (d : Need) → All (λ r. blank s.scopes ≡ blank r.1.scopes) (allot_need room place n s d)
  unfolding allot_need set_need
  need-blank n (defer id) = all-unless 4 λ k q. all_then λ r e. all-given ((allot-blank k _ 1 (id-here room s.scopes id k q).is).at r e)
  need-blank n (at a) = all-given refl
  need-blank n ignore = all-given refl
  need-blank n freed_need = all-given refl

  own-blank : (h : ℕ) (d : Need) → All (λ t. blank s.scopes ≡ blank t.scopes) (free_own h s d)
  unfolding free_own
  own-blank h (defer id) = all-given refl
  own-blank h (at a) = all-if (λ _. free-as-blank a.kind true h) (λ _. all-given refl)
  own-blank h ignore = all-given refl
  own-blank h freed_need = all-given refl

  -- ---- a step

  pub step-said : (f : Frame) → All (λ r. said room (blank s.scopes) f ≡ given (blank r.1.scopes)) (step room place s f)
  unfolding step said close set_handle set_need drain_dangling
  step-said child = all_then λ r e. all-given (then-given _ ((child-blank s.scopes room).at r e))
  step-said (pop n) = all_then λ k e. all-given (then-given _ ((pop-blank s.scopes room n).at k e) ∙ ap given (closed-blank k s.scopes))
  step-said (dangle n) = all_then λ c e. all-given ((dangle-blank s.scopes room n).at c e)
  step-said (restore n) = all_then λ c e. all-given ((restore-blank s.scopes room n).at c e)
  step-said pop_last = all_then λ k e. all-given (then-given _ ((last-blank s.scopes room).at k e) ∙ ap given (closed-blank k s.scopes))
  step-said alloc = all-unless 3 λ t q. all_then λ r e. all-given (ap given ((allot-blank t _ 1 (top-at s.scopes t q).1).at r e))
  step-said (alloc_in n) = all-unless 4 λ k q. all_then λ r e. all-given (ap given ((allot-blank k _ 1 (by-number-at s.scopes room n k q)).at r e))
  step-said (linear zero) = all-unless 3 λ _ _. all-given refl
  step-said (linear (suc n)) = all-unless 3 λ t q. all_then λ r e. all-given (ap given ((allot-blank t _ (suc n) (top-at s.scopes t q).1).at r e))
  step-said (define name h) = all-unless 3 λ t q. all-when 13 _ λ _. all_then λ c e. all-given (unless-some 3 _ (top-blank s.scopes t q) ∙ (bind-blank room s.scopes t name _ h).at c e)
  step-said (get name) = all_then λ b _. all-given refl
  step-said (take_from name) = all_then λ r e. all-given (then-given _ ((take-blank room s.scopes name).at r e))
  step-said (free h) = all_then λ t e. all-given (ap given ((free-blank true h).at t e))
  step-said (free_quietly h) = all_then λ t e. all-given (ap given ((free-blank false h).at t e))
  step-said (forget h) = all-when 13 _ λ _. all-given refl
  step-said drain = all-given refl
  step-said (write h v) = all-when 13 _ λ _. all-when 14 _ λ _. all-given refl
  step-said (read h) = all-when 13 _ λ _. all-when 14 _ λ _. all-when 15 _ λ _. all-given refl
  step-said (read_name name) = all_then λ b _. all-when 14 _ λ _. all-when 15 _ λ _. all-given refl
  step-said (new_defer n) = all-unless 4 λ _ _. all_then λ t e. all-given (ap given ((add-blank _).at t e))
  step-said (new_assigned h) = all-when 13 _ λ _. all_then λ t e. all-given (ap given ((add-blank _).at t e))
  step-said new_ignore = all_then λ t e. all-given (ap given ((add-blank _).at t e))
  step-said (alloc_need n) = all-when 21 _ λ _. all_then λ r e. all-given (ap given ((need-blank n (s.needs n).need).at r e))
  step-said (output_need n) = all-when 21 _ λ _. all_then λ _ _. all-given refl
  step-said (drop_need n) = all-when 21 _ λ _. all_then λ t e. all-given (ap given ((own-blank (s.needs n).handle (s.needs n).need).at t e))

  -- its deed needs the names alone
  pub step-deed : (f : Frame) → All (λ r. deed room s f ≡ deed room (start ▹ scopes≔ (blank s.scopes)) f) (step room place s f)
  unfolding step deed
  step-deed child = record { at = λ _ _. refl }
  step-deed (pop n) = record { at = λ _ _. refl }
  step-deed (dangle n) = record { at = λ _ _. refl }
  step-deed (restore n) = record { at = λ _ _. refl }
  step-deed pop_last = record { at = λ _ _. refl }
  step-deed alloc = record { at = λ _ _. refl }
  step-deed (alloc_in n) = record { at = λ _ _. refl }
  step-deed (linear n) = record { at = λ _ _. refl }
  step-deed (define name h) = record { at = λ _ _. refl }
  step-deed (get name) = record { at = λ _ _. refl }
  step-deed (take_from name) = record { at = λ _ _. refl }
  step-deed (free h) = record { at = λ _ _. refl }
  step-deed (free_quietly h) = record { at = λ _ _. refl }
  step-deed (forget h) = record { at = λ _ _. refl }
  step-deed drain = record { at = λ _ _. refl }
  step-deed (write h v) = record { at = λ _ _. refl }
  step-deed (read h) = record { at = λ _ _. refl }
  step-deed (new_defer n) = record { at = λ _ _. refl }
  step-deed (new_assigned h) = record { at = λ _ _. refl }
  step-deed new_ignore = record { at = λ _ _. refl }
  step-deed (alloc_need n) = record { at = λ _ _. refl }
  step-deed (output_need n) = record { at = λ _ _. refl }
  step-deed (drop_need n) = record { at = λ _ _. refl }
  step-deed (read_name name) = all_then λ b e. record { at = λ _ _. ap show_bound e ∙ ap show_bound (sym ((get-blank room s.scopes name).at b e)) }

-- Two states with the same names: steps that are given, wherever they place, leave the same names and have the same deed.
module _ (room : Room) (p q : Placement) (s t : State) (same : blank s.scopes ≡ blank t.scopes) (f : Frame) (r u : List Line × State)
    (e : step room p s f ≡ given r) (d : step room q t f ≡ given u) where
  pub names-on : blank r.1.scopes ≡ blank u.1.scopes
  names-on =
      let x = (step-said room p s f).at r e in
      let y = (step-said room q t f).at u d in
      let z : given (blank r.1.scopes) ≡ given (blank u.1.scopes) = sym x ∙ ap (λ (c : Scopes). said room c f) same ∙ y in
      cc

  pub deeds-on : deed room s f ≡ deed room t f
  deeds-on = (step-deed room p s f).at r e ∙ ap (λ (c : Scopes). deed room (start ▹ scopes≔ c) f) same ∙ sym ((step-deed room q t f).at u d)
