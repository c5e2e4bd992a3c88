-- Address sets through link cells: m lists over the addresses below n. Two cells for each address: `next` holds the address after it on
-- its list, `prev` the one before it. Cell n + i is both ends of list i: its `next` is the list's first address, its `prev` the last, and
-- both are n + i where the list is empty. An address on no list has a fixed mark in both cells. Assumes nothing.
use Rattle.std.specs.Prelude.{◌≡◌, true, false, List, [], ◌∷◌, ℕ, ◌+◌, ◌<◌, get_or}
use Rattle.rules.specs.Notation.{put}
use Rattle.rules.specs.AddressSets.{member, added, without}

-- the mark of an address on no list: no cell has this number
abbrev pub nowhere : ℕ
nowhere = 65535

-- b comes right after a
abbrev pub Link : (ℕ → ℕ) → (ℕ → ℕ) → ℕ → ℕ → Type 0
Link next prev a b = (next a ≡ b) × (prev b ≡ a)

-- R holds of p and the first, of each and the one after it, and of the last and q
abbrev pub Links : (ℕ → ℕ → Type 0) → ℕ → List ℕ → ℕ → Type 0
Links R p [] q = R p q
Links R p (x ∷ xs) q = R p x × Links R x xs q

-- the cells hold xs as the list whose ends are at cell e
pub record Ring (n : ℕ) (next prev : ℕ → ℕ) (e : ℕ) (xs : List ℕ) : Type 0 where
  pub links : Links (Link next prev) e xs e
  pub addr : (a : ℕ) → member a xs ≡ true → a < n

-- a is on one of the m lists; a is on none
abbrev pub On : ℕ → (ℕ → List ℕ) → ℕ → Type 0
On m lists a = (i : ℕ) × (i < m) × (member a (lists i) ≡ true)

abbrev pub Off : ℕ → (ℕ → List ℕ) → ℕ → Type 0
Off m lists a = (i : ℕ) → i < m → member a (lists i) ≡ false

-- the cells hold these m lists, and nothing else
pub record Chains (n m : ℕ) (next prev : ℕ → ℕ) (lists : ℕ → List ℕ) : Type 0 where
  pub ring : (i : ℕ) → i < m → Ring n next prev (n + i) (lists i)
  pub free : (a : ℕ) → a < n → Off m lists a → (next a ≡ nowhere) × (prev a ≡ nowhere)

-- both cells of each number in one array: `next` of k at k, `prev` of k at n + m + k
abbrev pub next_in : List ℕ → ℕ → ℕ
next_in t k = get_or t k 0

abbrev pub prev_in : ℕ → List ℕ → ℕ → ℕ
prev_in size t k = get_or t (size + k) 0

-- the array holds these m lists, and nothing else
abbrev pub Held : ℕ → ℕ → List ℕ → (ℕ → List ℕ) → Type 0
Held n m t lists = Chains n m (next_in t) (prev_in (n + m) t) lists

-- ---- what the functions do to the lists

-- a leaves the list that it is on
abbrev pub leaves : ℕ → (ℕ → List ℕ) → ℕ → List ℕ
leaves a lists i = without a (lists i)

-- list i gains a
abbrev pub gains : ℕ → ℕ → (ℕ → List ℕ) → ℕ → List ℕ
gains i a lists = put lists i (added a (lists i))
