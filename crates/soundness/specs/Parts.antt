-- The parts of soundness at one place each, as the check meets them, and its walks, which have a bound on their steps. Assumes nothing.
use Rattle.std.specs.Prelude.{◌≡◌, ◌≢◌, ◌⊎◌, Bool, true, false, List, [], ◌∷◌, ℕ, zero, suc, ◌+◌, ◌≤◌, ◌<◌, length, get_or, set, eqb, ltb}
use Rattle.rules.specs.Sizes.{BINDINGS, SCOPES}
use Rattle.rules.specs.AddressSets.{member}
use Rattle.slots.specs.Halves.{bit, occ}
use Rattle.links.specs.Links.{next_in, prev_in, nowhere}
use Rattle.links.specs.Follow.{lists}
use Rattle.scopes.specs.View.{binding}
use Rattle.scopes.specs.Sound.{LeadsToRoot}

abbrev pub Below : ℕ → (ℕ → Type 0) → Type 0
Below n P = (j : ℕ) → j < n → P j

-- ---- lists: m of them over the addresses below n

abbrev pub owner_of : List ℕ → ℕ → ℕ
owner_of owner a = get_or owner a 0

-- From the cell c that comes after p, along `next` to the end e, in fewer than k steps: each address on the way has owner i, and its
-- `prev` leads back.
unfoldable pub goes : ℕ → (ℕ → ℕ) → (ℕ → ℕ) → (ℕ → ℕ) → ℕ → ℕ → ℕ → ℕ → ℕ → Bool
goes n next prev owner i e zero p c = false
goes n next prev owner i e (suc k) p c =
    elim (ltb c n) [
      | true ↦ elim (eqb (prev c) p) [
        | true ↦ elim (eqb (owner c) i) [ true ↦ goes n next prev owner i e k c (next c) | false ↦ false ]
        | false ↦ false
      ]
      | false ↦ elim (eqb c e) [ true ↦ eqb (prev e) p | false ↦ false ]
    ]

-- list i goes round
abbrev pub round : ℕ → ℕ → List ℕ → List ℕ → ℕ → Bool
round n m links owner i = goes n (next_in links) (prev_in (n + m) links) (owner_of owner) i (n + i) (suc n) (n + i) (next_in links (n + i))

-- the owner of a is a list that a is on, or none, and then both cells say so
pub record RingedAt (n m : ℕ) (links owner : List ℕ) (a : ℕ) : Type 0 where
  pub most : owner_of owner a ≤ m
  pub on : owner_of owner a < m → member a (lists n links (owner_of owner a)) ≡ true
  pub off : owner_of owner a ≡ m → (next_in links a ≡ nowhere) × (prev_in (n + m) links a ≡ nowhere)

-- i at each address of xs
unfoldable pub mark : List ℕ → ℕ → List ℕ → List ℕ
mark [] i marks = marks
mark (x ∷ xs) i marks = mark xs i (set marks x i)

-- the last of the first k lists that a is on, or m
unfoldable pub last_of : (ℕ → List ℕ) → ℕ → ℕ → ℕ → ℕ
last_of xs m zero a = m
last_of xs m (suc k) a = elim (member a (xs k)) [ true ↦ k | false ↦ last_of xs m k a ]

-- the marks of the first k lists
pub record Marks (n m : ℕ) (links : List ℕ) (k : ℕ) (marks : List ℕ) : Type 0 where
  pub long : length marks ≡ n
  pub each : (a : ℕ) → a < n → get_or marks a 0 ≡ last_of (lists n links) m k a

-- the marks agree with the owner, and an address on no list says so in both cells
pub record MarkedAt (n m : ℕ) (links owner : List ℕ) (a : ℕ) : Type 0 where
  pub last : last_of (lists n links) m m a ≡ owner_of owner a
  pub off : owner_of owner a ≡ m → (next_in links a ≡ nowhere) × (prev_in (n + m) links a ≡ nowhere)

-- ---- owners

pub record OwnedAt (halves owner : List ℕ) (live : List Bool) (size a : ℕ) : Type 0 where
  pub taken : occ halves a ≡ ltb (owner_of owner a) SCOPES
  pub alive : owner_of owner a < SCOPES → get_or live (owner_of owner a) false ≡ true
  pub above : owner_of owner a < SCOPES → a < size

-- ---- scopes

-- from i over live scopes to root, which has no parent; at most k of them
unfoldable pub climb : List Bool → List ℕ → ℕ → ℕ → Bool
climb live parent zero i = false
climb live parent (suc k) i =
    elim (get_or live i false) [
      | true ↦ elim (eqb i 0) [ true ↦ eqb (get_or parent i 0) SCOPES | false ↦ climb live parent k (get_or parent i 0) ]
      | false ↦ false
    ]

-- the scopes of which it is known that parents lead to root
pub record Known (live : List Bool) (parent : List ℕ) (known : List Bool) : Type 0 where
  pub long : length known ≡ SCOPES
  pub leads : (k : ℕ) → get_or known k false ≡ true → LeadsToRoot live parent k

pub record RootedAt (live dangled : List Bool) (parent number : List ℕ) (i : ℕ) : Type 0 where
  pub leads : get_or live i false ≡ true → LeadsToRoot live parent i
  pub dead : get_or live i false ≡ false → (get_or dangled i false ≡ false) × (get_or parent i 0 ≡ SCOPES) × (get_or number i 0 ≡ 0)

-- "top is live, or nothing is"
abbrev pub Topped : List Bool → ℕ → Type 0
Topped live top = ((top < SCOPES) × (get_or live top false ≡ true)) ⊎ ((top ≡ SCOPES) × Below SCOPES (λ i. get_or live i false ≡ false))

-- ---- bindings

abbrev pub scope_of : List ℕ → ℕ → ℕ
scope_of bindings j = (binding (get_or bindings j 0)).scope

abbrev pub name_of : List ℕ → ℕ → ℕ
name_of bindings j = (binding (get_or bindings j 0)).name

abbrev pub LiveAt : List ℕ → List Bool → ℕ → Type 0
LiveAt bindings live j = get_or live (scope_of bindings j) false ≡ true

-- no two of the first n have one scope and one name
abbrev pub Distinct : List ℕ → ℕ → Type 0
Distinct bindings n = (j k : ℕ) → j < k → k < n → scope_of bindings k ≡ scope_of bindings j → name_of bindings k ≢ name_of bindings j

-- k stands for the name of binding j: it is the place that the table told, if that has the name
pub record Place (bindings : List ℕ) (told j k : ℕ) : Type 0 where
  pub within : k < BINDINGS
  pub named : name_of bindings k ≡ name_of bindings j
  pub kept : name_of bindings told ≡ name_of bindings j → k ≡ told

-- after the first n: `places` tells for each of their names a place that has it, and `scopes` has at that place, as bits, the scopes that
-- bound it so far, and no others
pub record Met (bindings places scopes : List ℕ) (n : ℕ) : Type 0 where
  pub kept : Below n (λ j. name_of bindings (get_or places (name_of bindings j) 0) ≡ name_of bindings j)
  pub noted : Below n (λ j. bit (get_or scopes (get_or places (name_of bindings j) 0) 0) (scope_of bindings j) ≡ true)
  pub only : (k i : ℕ) → bit (get_or scopes k 0) i ≡ true → (j : ℕ) × (j < n) × (scope_of bindings j ≡ i) × (name_of bindings j ≡ name_of bindings k)
