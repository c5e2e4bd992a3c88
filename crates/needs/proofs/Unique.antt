-- Any two results that a promise admits are equal: what the rules see of an answer tells the answer. Assumes nothing.
use mathlib.Core.Path.{◌≡◌, refl, sym, ap, ◌∙◌}
use mathlib.Core.List.{List, [], ◌∷◌}
use Prim.Native.Nat.{ℕ, zero, suc}
use lib.ListN.{length}
use Rattle.std.specs.Prelude.{Result, Ok, Err, Some, None}
use Rattle.std.specs.Prelude as code
use Rattle.rules.specs.AddressSets.{run}
use Rattle.rules.specs.Needs as rule
use Rattle.rules.specs.Refusals.{number_of, says}
use Rattle.rules.specs.declared.refusal.Refusal.{Refusal}
use Rattle.rules.proofs.Says.{number-one, says-one}
use Rattle.rules.proofs.Tables.{by_eqb}
use Rattle.slots.specs.declared.SlotAddress.{SlotAddress}
use Rattle.needs.specs.Kinds.{kind_of, address_of, addresses, run_of, Plain, need_of}
use Rattle.needs.specs.Answers.{PlainRun, slot_of, output_of, tried_address, SeenNeed, seen_taken, seen_assigned}
use Rattle.needs.specs.declared.AddressKind.{AddressKind}
use Rattle.needs.specs.declared.AddressKind.TheVariants as kind
use Rattle.needs.specs.declared.Address.{Address}
use Rattle.needs.specs.declared.Run.{Run}
use Rattle.needs.specs.declared.Need.{Need}
use Rattle.needs.specs.declared.Need.TheVariants as need
use Rattle.needs.specs.declared.Output.{Output}
use Rattle.needs.specs.declared.Output.TheVariants as output

-- what has a way back is told by what it goes to
one : {A B : Type 0} (f : A → B) (g : B → A) → ((a : A) → g (f a) ≡ a) → (a b : A) → f a ≡ f b → a ≡ b
one f g back a b e = sym (back a) ∙ ap g e ∙ back b

-- ---- kinds, addresses, needs

abbrev kind_from : rule.Kind → AddressKind
kind_from rule.local = kind.Local
kind_from rule.dangling = kind.Dangling
kind_from rule.assigned = kind.Assigned
kind_from rule.freed = kind.Freed
kind_from (rule.scope i) = kind.Scope (record { index = i.index; number = i.number })

kind-back : (k : AddressKind) → kind_from (kind_of k) ≡ k
kind-back kind.Local = refl
kind-back kind.Dangling = refl
kind-back kind.Assigned = refl
kind-back kind.Freed = refl
kind-back (kind.Scope i) = refl

abbrev address_from : rule.Address → Address
address_from a = record { slot = record { 0 = a.slot }; kind = kind_from a.kind }

address-back : (a : Address) → address_from (address_of a) ≡ a
address-back a = ap (λ (k : AddressKind). record { slot = a.slot; kind = k }) (kind-back a.kind)

pub address-one : (a b : Address) → address_of a ≡ address_of b → a ≡ b
address-one = one address_of address_from address-back

abbrev need_from : rule.Need → Need
need_from (rule.defer i) = need.Defer (record { index = i.index; number = i.number })
need_from (rule.at a) = need.Address (address_from a)
need_from rule.ignore = need.Ignore
need_from rule.freed_need = need.Freed

need-back : (d : Need) → need_from (need_of d) ≡ d
need-back (need.Defer i) = refl
need-back (need.Address a) = ap need.Address (address-back a)
need-back need.Ignore = refl
need-back need.Freed = refl

pub need-one : (a b : Need) → need_of a ≡ need_of b → a ≡ b
need-one = one need_of need_from need-back

-- ---- what is given

pub slot-one : (a b : code.Option SlotAddress) → slot_of a ≡ slot_of b → a ≡ b
slot-one (Some a) (Some b) e = ap (λ (n : ℕ). Some (record { 0 = n })) (let n : a.0 ≡ b.0 = cc in n)
slot-one (Some a) None e = absurd (cc)
slot-one None (Some b) e = absurd (cc)
slot-one None None e = refl

pub output-one : (a b : Output) → output_of a ≡ output_of b → a ≡ b
output-one (output.Keep a) (output.Keep b) e = ap (λ (n : ℕ). output.Keep (record { 0 = n })) (let n : a.0 ≡ b.0 = cc in n)
output-one (output.Keep a) output.Discard e = absurd (cc)
output-one output.Discard (output.Keep b) e = absurd (cc)
output-one output.Discard output.Discard e = refl

pub tried-one : (a b : code.Option Address) → tried_address a ≡ tried_address b → a ≡ b
tried-one (Some a) (Some b) e = let g : address_of a ≡ address_of b = cc in ap Some (address-one a b g)
tried-one (Some a) None e = absurd (cc)
tried-one None (Some b) e = absurd (cc)
tried-one None None e = refl

-- ---- answers

pub address-says-one : (a b : Result Address Refusal) → says address_of a ≡ says address_of b → a ≡ b
address-says-one = says-one address_of address-one

pub slot-says-one : (a b : Result (code.Option SlotAddress) Refusal) → says slot_of a ≡ says slot_of b → a ≡ b
slot-says-one = says-one slot_of slot-one

pub output-says-one : (a b : Result Output Refusal) → says output_of a ≡ says output_of b → a ≡ b
output-says-one = says-one output_of output-one

pub tried-says-one : (a b : Result (code.Option Address) Refusal) → says tried_address a ≡ says tried_address b → a ≡ b
tried-says-one = says-one tried_address tried-one

-- ---- runs: an empty one is plain, another is told by its first address and how many there are

run_length : (k : rule.Kind) (a n : ℕ) → length (addresses k a n) ≡ n
unfolding run
run_length k a zero = refl
run_length k a (suc n) = ap suc (run_length k (suc a) n)

abbrev first_or : rule.Address → List rule.Address → rule.Address
first_or d [] = d
first_or d (a ∷ l) = a

run-first : (d : rule.Address) (k : rule.Kind) (a n : ℕ) → (n ≡ 0 → ⊥) → first_or d (addresses k a n) ≡ rule.address a k
unfolding run
run-first d k a zero z = absurd (z refl)
run-first d k a (suc n) z = refl

pub run-one : (r q : Run) → Plain r → Plain q → run_of r ≡ run_of q → r ≡ q
run-one r q pr pq e = by_eqb r.count 0 (λ z. pr z ∙ sym (pq (sym counts ∙ z))) same
  where
    counts : r.count ≡ q.count
    counts = sym (run_length (kind_of r.kind) r.first.0 r.count) ∙ ap length e ∙ run_length (kind_of q.kind) q.first.0 q.count

    same : (r.count ≡ 0 → ⊥) → r ≡ q
    same z =
        let f : rule.address r.first.0 (kind_of r.kind) ≡ rule.address q.first.0 (kind_of q.kind) =
        sym (run-first (rule.address 0 rule.freed) (kind_of r.kind) r.first.0 r.count z)
        ∙ ap (first_or (rule.address 0 rule.freed)) e
        ∙ run-first (rule.address 0 rule.freed) (kind_of q.kind) q.first.0 q.count (λ y. z (counts ∙ y)) in
        let k : r.kind ≡ q.kind = one kind_of kind_from kind-back r.kind q.kind (ap (λ (a : rule.Address). a.kind) f) in
        λ i. record { first = record { 0 = (f i).slot }; count = counts i; kind = k i }

pub run-says-one : (a b : Result Run Refusal) → PlainRun a → PlainRun b → says run_of a ≡ says run_of b → a ≡ b
run-says-one (Ok r) (Ok q) p o e = let l : run_of r ≡ run_of q = cc in ap Ok (run-one r q p o l)
run-says-one (Ok r) (Err d) p o e = absurd (cc)
run-says-one (Err d) (Ok q) p o e = absurd (cc)
run-says-one (Err d) (Err c) p o e = let n : number_of d ≡ number_of c = cc in ap Err (number-one d c n)

-- ---- results without a state: the need afterwards, and the answer

pub taken-one : (r q : Need × Result Address Refusal) → seen_taken r ≡ seen_taken q → r ≡ q
taken-one r q e =
    let d : r.0 ≡ q.0 = need-one r.0 q.0 (ap (λ (x : SeenNeed rule.Address). x.need) e) in
    let a : r.1 ≡ q.1 = address-says-one r.1 q.1 (ap (λ (x : SeenNeed rule.Address). x.says) e) in
    λ i. (d i, a i)

pub assigned-one : (r q : Need × code.Option SlotAddress) → seen_assigned r ≡ seen_assigned q → r ≡ q
assigned-one r q e =
    let d : r.0 ≡ q.0 = need-one r.0 q.0 (ap (λ (x : rule.Assignment). x.need) e) in
    let c : r.1 ≡ q.1 = slot-one r.1 q.1 (ap (λ (x : rule.Assignment). x.copy_to) e) in
    λ i. (d i, c i)
