-- What is promised of a call f that is handed a state once it is checked: "29 first", else what f may answer and leave. Assumes nothing.
use Rattle.std.specs.Prelude.{◌≡◌, Result}
use Rattle.std.specs.Borrow.{MutBor}
use Rattle.std.specs.Fn.{Once, FnOnceReturnsAtMut}
use Rattle.rules.specs.declared.refusal.Refusal.{Refusal}
use Rattle.scopes.specs.declared.Scopes.{Scopes}
use Rattle.needs.specs.declared.Need.{Need}
use Rattle.allocator.specs.Entries.{Checked, unsound}
use Rattle.allocator.specs.declared.Outcome.{Outcome}

-- what f is lent: the state, or the state and a need
abbrev pub Lent : Type 0
Lent = MutBor Scopes × Unit {0}

abbrev pub LentBoth : Type 0
LentBoth = MutBor Scopes × (MutBor Need × Unit {0})

module _ {F T : Type 0} where
  abbrev pub Leaves : Once F Lent (Result T Refusal × Lent) → F → Scopes → Outcome T → Type 0
  Leaves g f s r = Checked s (unsound s) (λ o. FnOnceReturnsAtMut g f s o.answer o.state) r

  -- f may be called at the state s and the need d
  abbrev pub TakesBoth : Once F LentBoth (Result T Refusal × LentBoth) → F → Scopes → Need → Type 0
  TakesBoth g f s d = (p : MutBor Scopes) (q : MutBor Need) → p.now ≡ s → q.now ≡ d → g.pre f (p, (q, tt))

  -- at s and d it may give o's answer, and leave o's state and need
  pub record ReturnsBoth (g : Once F LentBoth (Result T Refusal × LentBoth)) (f : F) (s : Scopes) (d : Need) (o : Outcome T × Need) : Type 0 where
    pub state : MutBor Scopes
    pub need : MutBor Need
    pub lent : (state.now ≡ s) × (need.now ≡ d)
    pub left : LentBoth
    pub met : g.post f (state, (need, tt)) (o.0.answer, left)
    pub leaves : (left.0.now ≡ o.0.state) × (left.1.0.now ≡ o.1)

  abbrev pub LeavesBoth : Once F LentBoth (Result T Refusal × LentBoth) → F → Scopes → Need → Outcome T × Need → Type 0
  LeavesBoth g f s d r = Checked s (unsound s, d) (ReturnsBoth g f s d) r
