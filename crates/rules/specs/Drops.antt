-- Document 02, W-201: "on 25 then 14, 12". In a script neither comes. 25 gives a slot back only where the need's scope is the top, and that is
-- the scope in which 23 allocated: within a script's lines the child counter does not go round, so no later scope has its number. Its list
-- has the slot still, and the handle holds it still: it belongs to the need, so 0c, 0d and 0e refuse it by 13. Assumes nothing.
use Rattle.std.specs.Prelude.{◌≡◌, List, ◌∷◌, ◌++◌, ℕ, ◌+◌, ◌<◌, length}
use Rattle.rules.specs.Sizes.{Room}
use Rattle.rules.specs.Slots.{Placement}
use Rattle.rules.specs.Frames.{Frame, drop_need, start, refused_at, steps}
use Rattle.rules.specs.Text.{frames, title, read_script}
use Rattle.rules.specs.Entries.{translated}

-- where the frame behind fs, the first of which is line i, is a 25, and it is refused, the number is 21: "need unknown or freed"
unfoldable pub DropsUnlessLost : Room → Placement → Type 0
DropsUnlessLost room place =
    (i : ℕ) (fs : List Frame) (need : ℕ) (more : List Frame) (n : ℕ) → i + length fs < room.lines
    → steps room place i start (fs ++ (drop_need need ∷ more)) ≡ refused_at n (i + length fs) → n ≡ 21

-- the same of a script's bytes, in either edition
unfoldable pub DropsUnlessLostBytes : Room → Type 0
DropsUnlessLostBytes room =
    (script : List ℕ) (fs : List Frame) (need : ℕ) (more : List Frame) (n : ℕ) → (read_script room script).script ≡ frames (fs ++ (drop_need need ∷ more))
    → translated room script ≡ refused_at n (length (title (read_script room script).place) + length fs) → n ≡ 21
