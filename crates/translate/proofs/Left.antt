-- What `translate` leaves: a refusal leaves the list as it was, 17 where it is too short, else the list's bytes go to its start; and what the
-- promise admits is one result, whose two halves can't be mistaken for each other. Assumes nothing.
use Rattle.std.specs.Prelude.{Result, Ok, Err}
use mathlib.Core.Path.{◌≡◌, refl, sym, ap, subst, ◌∙◌}
use mathlib.Core.Logic.{inl, inr}
use mathlib.Core.List.{List, ◌++◌}
use Prim.Native.Nat.{ℕ, ◌≤◌, ◌<◌}
use native.Mathlib.Omega.{arith}
use lib.ListN.{length, take, drop}
use borrow.Author.Tests.{le-leb, lt-leb}
use Rattle.rules.specs.Notation.{provided◌then◌else◌}
use Rattle.rules.specs.Sizes.{base, PAGE}
use Rattle.rules.specs.Frames.{Outcome}
use Rattle.rules.specs.Text.{list_text}
use Rattle.rules.specs.Entries.{translated, Translation, list_left, translate_entry}
use Rattle.text.specs.declared.refusal.RefusedAt.{RefusedAt}
use Rattle.translate.specs.Whole.{told, too_long, LeavesList, LeavesOn, leaves, too_short, Lists, EndsOn}
use Rattle.translate.specs.declared.whole.Listed.{Listed}

-- ---- by how the steps ended

module _ (script list page : List ℕ) where
  pub left-refused : (e : RefusedAt) → EndsOn (translated base script) (Err e) page → LeavesOn (length page) (translate_entry base script list) (Err e) list
  unfolding translate_entry list_left
  left-refused e (inl h) = leaves (record { answered = sym (ap (λ (o : Outcome). (list_left o list).answer) h.0); list_left = sym (ap (λ (o : Outcome). (list_left o list).list) h.0) })
  left-refused e (inr h) = too_short h.0 (ap Err h.1)

  module _ (l : Listed) (h : Lists (translated base script) l page) where
    pub left-short : length list < l.bytes → LeavesOn (length page) (translate_entry base script list) (Err too_long) list
    unfolding translate_entry list_left provided◌then◌else◌
    left-short k =
        leaves
        (rw (h.is, lt-leb (length (list_text h.lines l.size)) (length list) (omega (arith, h.many)), provided◌then◌else◌)
        (record { answered = refl; list_left = refl }))

    pub left-list : (list' : List ℕ) → l.bytes ≤ length list → list' ≡ take l.bytes page ++ drop l.bytes list → LeavesOn (length page) (translate_entry base script list) (Ok l.bytes) list'
    unfolding translate_entry list_left provided◌then◌else◌
    left-list list' k a =
        leaves
        (rw (h.is, le-leb (length (list_text h.lines l.size)) (length list) (omega (arith, h.many)), provided◌then◌else◌)
        (record { answered = h.many; list_left = a ∙ ap (λ (b : List ℕ). b ++ drop l.bytes list) h.text ∙ ap (λ (j : ℕ). list_text h.lines l.size ++ drop j list) h.many }))

-- ---- by the page

-- an answer that isn't 17, or one on a whole page
pub not-outgrown : {m : ℕ} {r : Result ℕ RefusedAt} {l : Translation} {list : List ℕ} → (r ≡ Err too_long → ⊥) → LeavesOn m l r list → LeavesList l (told r) list
not-outgrown n (leaves h) = h
not-outgrown n (too_short l e) = absurd (n e)

pub never-outgrown : {m : ℕ} {r : Result ℕ RefusedAt} {l : Translation} {list : List ℕ} → m ≡ PAGE → LeavesOn m l r list → LeavesList l (told r) list
never-outgrown e (leaves h) = h
never-outgrown e (too_short l a) = absurd (omega (arith, e))

-- the steps leave the page as long as it was
pub page-same : {m n : ℕ} {r : Result ℕ RefusedAt} {l : Translation} {list : List ℕ} → n ≡ m → LeavesOn n l r list → LeavesOn m l r list
page-same {r = r} {l = l} {list = list} e h = subst (λ (x : ℕ). LeavesOn x l r list) e h

-- once more, over a list that is as it was
pub from-same : (script : List ℕ) {list list' last : List ℕ} {r : ℕ} → list' ≡ list → LeavesList (translate_entry base script list') r last → LeavesList (translate_entry base script list) r last
from-same script {last = last} {r = r} e h = subst (λ (x : List ℕ). LeavesList (translate_entry base script x) r last) e h

-- ---- any two results that the promise admits are equal

pub leaves-one : {l : Translation} {r r' : ℕ} {list list' : List ℕ} → LeavesList l r list → LeavesList l r' list' → (r ≡ r') × (list ≡ list')
leaves-one a b = (a.answered ∙ sym b.answered, a.list_left ∙ sym b.list_left)
