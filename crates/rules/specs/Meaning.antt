-- What a script means, and what the frame machine does with a list. Assumes nothing.
use Rattle.std.specs.Prelude.{true, false, List, [], ◌∷◌, ℕ, zero, suc, ◌+◌, get_or, set, drop, ltb}
use Rattle.std.proofs.Math.Option.{Option, none, some}
use Rattle.rules.specs.Notation.{Answer, given, refused, put}
use Rattle.rules.specs.Sizes.{Room}
use Rattle.rules.specs.Slots.{Placement}
use Rattle.rules.specs.Scopes.{Binding, get_name}
use Rattle.rules.specs.Frames.{Frame, child, pop, dangle, restore, pop_last, alloc, alloc_in, linear, define, get, take_from, free, free_quietly, forget, drain, Source, constant, next_sample, write, read, read_name, new_defer, new_assigned, new_ignore, alloc_need, output_need, drop_need, State, Line, stores, loads, shows, Step, step}

-- ---- "what the script means if each allocation had a box of its own, never used again"

-- A handle is an allocation, and its box has the handle's number. What a frame does to the boxes:
pub data Deed : Type 0 where
  nothing : Deed
  fill : ℕ → Source → Deed
  show : ℕ → Deed

abbrev pub show_bound : Answer Binding → Deed
show_bound (refused n) = nothing
show_bound (given b) = show b.handle

unfoldable pub deed : Room → State → Frame → Deed
deed room s child = nothing
deed room s (pop n) = nothing
deed room s (dangle n) = nothing
deed room s (restore n) = nothing
deed room s pop_last = nothing
deed room s alloc = nothing
deed room s (alloc_in n) = nothing
deed room s (linear n) = nothing
deed room s (define name h) = nothing
deed room s (get name) = nothing
deed room s (take_from name) = nothing
deed room s (free h) = nothing
deed room s (free_quietly h) = nothing
deed room s (forget h) = nothing
deed room s drain = nothing
deed room s (write h x) = fill h x
deed room s (read h) = show h
deed room s (read_name name) = show_bound (get_name room name s.scopes)
deed room s (new_defer n) = nothing
deed room s (new_assigned h) = nothing
deed room s new_ignore = nothing
deed room s (alloc_need n) = nothing
deed room s (output_need n) = nothing
deed room s (drop_need n) = nothing

-- W-205: "those samples in order, each used once". With the samples vs to come: what is stored, and the samples that come after it. Where
-- they are too few 23 is given beside this (Entries), as 20 is.
abbrev pub worth : Source → List ℕ → ℕ
worth (constant v) vs = v
worth next_sample vs = get_or vs 0 0

abbrev pub later : Source → List ℕ → List ℕ
later (constant v) vs = vs
later next_sample vs = drop 1 vs

-- the boxes after a deed, and the samples after it
abbrev pub filled : Deed → List ℕ → (ℕ → ℕ) → ℕ → ℕ
filled nothing vs boxes = boxes
filled (fill h x) vs boxes = put boxes h (worth x vs)
filled (show h) vs boxes = boxes

abbrev pub unused : Deed → List ℕ → List ℕ
unused nothing vs = vs
unused (fill h x) vs = later x vs
unused (show h) vs = vs

abbrev pub shown : Deed → (ℕ → ℕ) → List ℕ → List ℕ
shown nothing boxes rest = rest
shown (fill h x) boxes rest = rest
shown (show h) boxes rest = boxes h ∷ rest

-- a script means something up to its first refused frame
unfoldable pub unless_refused : Step → (State → List ℕ) → List ℕ
unless_refused (refused n) rest = []
unless_refused (given r) rest = rest r.1

module _ (room : Room) (place : Placement) where
  -- the values that the script's reads give, in order, with the samples vs
  unfoldable pub meaning : State → (ℕ → ℕ) → List ℕ → List Frame → List ℕ
  meaning s boxes vs [] = []
  meaning s boxes vs (f ∷ fs) =
      unless_refused (step room place s f) (λ t. shown (deed room s f) boxes (meaning t (filled (deed room s f) vs boxes) (unused (deed room s f) vs) fs))

-- ---- the frame machine

-- the cells afterwards, and the values that were loaded
pub record Ran : Type 0 where
  pub cells : List ℕ
  pub loaded : List ℕ

abbrev pub loading : ℕ → Ran → Ran
loading v r = record { cells = r.cells; loaded = v ∷ r.loaded }

-- "obeys 10, 11, 12", and 14 with the samples vs
unfoldable pub obey : List ℕ → List ℕ → List Line → Ran
obey cells vs [] = record { cells = cells; loaded = [] }
obey cells vs (shows o l ∷ ls) = obey cells vs ls
obey cells vs (stores a x ∷ ls) = obey (set cells a (worth x vs)) (later x vs) ls
obey cells vs (loads o a ∷ ls) = loading (get_or cells a 0) (obey cells vs ls)

-- 20, "which covers 14 too": the first line, counted from i, whose address is not below the size
unfoldable pub high : ℕ → ℕ → List Line → Option ℕ
high size i [] = none
high size i (shows o l ∷ ls) = high size (suc i) ls
high size i (stores a x ∷ ls) = elim (ltb a size) [ true ↦ high size (suc i) ls | false ↦ some i ]
high size i (loads o a ∷ ls) = elim (ltb a size) [ true ↦ high size (suc i) ls | false ↦ some i ]

-- ---- how many samples are taken

abbrev pub takes : Source → ℕ
takes (constant v) = 0
takes next_sample = 1

-- by the lines of a list
unfoldable pub list_takes : List Line → ℕ
list_takes [] = 0
list_takes (stores a x ∷ ls) = takes x + list_takes ls
list_takes (loads o a ∷ ls) = list_takes ls
list_takes (shows o l ∷ ls) = list_takes ls

-- by the frames of a script
abbrev pub frame_takes : Frame → ℕ
frame_takes child = 0
frame_takes (pop n) = 0
frame_takes (dangle n) = 0
frame_takes (restore n) = 0
frame_takes pop_last = 0
frame_takes alloc = 0
frame_takes (alloc_in n) = 0
frame_takes (linear n) = 0
frame_takes (define name h) = 0
frame_takes (get name) = 0
frame_takes (take_from name) = 0
frame_takes (free h) = 0
frame_takes (free_quietly h) = 0
frame_takes (forget h) = 0
frame_takes drain = 0
frame_takes (write h x) = takes x
frame_takes (read h) = 0
frame_takes (read_name name) = 0
frame_takes (new_defer n) = 0
frame_takes (new_assigned h) = 0
frame_takes new_ignore = 0
frame_takes (alloc_need n) = 0
frame_takes (output_need n) = 0
frame_takes (drop_need n) = 0

unfoldable pub frames_take : List Frame → ℕ
frames_take [] = 0
frames_take (f ∷ fs) = frame_takes f + frames_take fs

-- 23: "the first 14 line without a sample", counted from i, where there are n samples
unfoldable pub lacking : ℕ → ℕ → List Line → Option ℕ
lacking i n [] = none
lacking i n (stores a (constant v) ∷ ls) = lacking (suc i) n ls
lacking i zero (stores a next_sample ∷ ls) = some i
lacking i (suc n) (stores a next_sample ∷ ls) = lacking (suc i) n ls
lacking i n (loads o a ∷ ls) = lacking (suc i) n ls
lacking i n (shows o l ∷ ls) = lacking (suc i) n ls
