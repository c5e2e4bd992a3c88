-- W-206: what a script and a list give in a room, they give in a larger one, and W-203 says of them what it said; so from the room of 01 to ours.
-- Assumes nothing.
use mathlib.Core.Path.{◌≡◌, refl, sym, subst}
use native.Mathlib.Omega.{arith}
use lib.Dec.{lit<}
use Rattle.rules.specs.Sizes.{Room, base}
use Rattle.rules.specs.Rooms.{Larger, ScriptKept, ScriptsKept, ListKept, ListsKept, VerdictKept, VerdictsKept, StoredKept, room01, RoomsKept}
use Rattle.rules.proofs.Fits.{Wide, base-wide}
use Rattle.rules.proofs.Larger.{grown}
use Rattle.rules.proofs.Grown.{script-still, list-still}
use Rattle.rules.proofs.Judged.{verdict-still}

module _ (small large : Room) (l : Larger small large) (here : Wide small) (there : Wide large) where
  -- a larger room is the smaller one, grown
  as-grown : grown small large.segments large.handles large.size large.text ≡ large
  as-grown = λ u. record {
    segments = large.segments;
    scopes = sym l.scopes u;
    bindings = sym l.bindings u;
    handles = large.handles;
    needs = sym l.needs u;
    lines = sym l.lines u;
    size = large.size;
    text = large.text;
  }

  pub scripts-kept : ScriptsKept small large
  unfolding ScriptsKept
  scripts-kept script =
      subst (λ (room : Room). ScriptKept small room script) as-grown
      (script-still small large.segments large.handles large.size large.text l.handles l.segments here (subst Wide (sym as-grown) there) script)

  pub lists-kept : ListsKept small large
  unfolding ListsKept
  lists-kept list = subst (λ (room : Room). ListKept small room list) as-grown (list-still small large.segments large.handles large.size large.text l.size list)

  pub verdicts-kept : VerdictsKept small large
  unfolding VerdictsKept
  verdicts-kept script list =
      subst (λ (room : Room). VerdictKept small room script list) as-grown
      (verdict-still small large.segments large.handles large.size large.text l.handles l.segments here (subst Wide (sym as-grown) there) l.size script list)

  pub stored-kept : StoredKept small large
  stored-kept = record { larger = l; scripts = scripts-kept; lists = lists-kept; verdicts = verdicts-kept }

room01-wide : Wide room01
unfolding room01
room01-wide = record { segments = lit< tt; scopes = lit< tt; slots = omega arith; size = lit< tt; lines = lit< tt; one_line = lit< tt; needs = lit< tt }

base-larger : Larger room01 base
unfolding room01 base
base-larger = record { segments = omega arith; handles = omega arith; size = omega arith; scopes = refl; bindings = refl; needs = refl; lines = refl }

pub rooms-kept : RoomsKept
unfolding RoomsKept
rooms-kept = stored-kept room01 base base-larger room01-wide base-wide
