-- What makes a contract tight. Assumes nothing.
use Rattle.std.specs.Prelude.{Err, Ok, Result}
use mathlib.Core.Path.{◌≡◌, refl, sym, ◌∙◌, ap}
use mathlib.Core.Logic.{∥∥₁_elim, ∥∥₁_map, ∥∥₁_prop}
use mathlib.Core.List.{List, [], ◌∷◌, ◌++◌}
use Prim.Native.Nat.{ℕ}
use native.Mathlib.Nat.{ℕ_set}
use lib.ListN.{length}
use base.Stored.{Coded, Coded-set, coded_ℕ, coded_list}
use denote.Signature.{type_at}
use denote.Triple.Entry.{Res}
use denote.Triple.Clauses.{Ended}
use Rattle.tightness.specs.Tight.{Call}
use Rattle.addresses.proofs.Parts.{split-image}
use Rattle.places.proofs.Records.{asked-same}
use Rattle.station.specs.Paper.{Paper}
use Rattle.walk.specs.declared.Fetch.{Fetch}
use Rattle.walk.specs.declared.Fetch.TheVariants.{One, Two, Stack}
use Rattle.walk.specs.Offsets.{Source, from_registers, from_stack, source_of}
use Rattle.walk.specs.Asks.{IsStanding}
use Rattle.form.specs.declared.Refusal.{Refusal}
use Rattle.places.specs.declared.Shape.{Shape}

-- the values of a Rattle type are coded by trees of numbers, so that two of them are equal in one way only: those of a result, and lists of bytes
abbrev pub result : (T : Ended) (c : Call T) → Coded (Res T.signature c.lifetimes)
result T c = (type_at T.signature.result c.lifetimes).coded

abbrev pub bytes : Coded (List ℕ)
bytes = coded_list coded_ℕ

-- what a contract states makes two such values equal: one fact, or two
pub told : {X : Type 0} (c : Coded X) {x y : X} {φ : Type 0} {A : Type 1} → ∥ φ × A ∥₁ → (φ → x ≡ y) → x ≡ y
told c {x} {y} p f = ∥∥₁_elim p (Coded-set c x y) (λ s. f s.0)

pub settle : {X : Type 0} (c : Coded X) {x y : X} {φ ψ : Type 0} {A B : Type 1} → ∥ φ × A ∥₁ → ∥ ψ × B ∥₁ → (φ → ψ → x ≡ y) → x ≡ y
settle c p q f = told c p (λ s. told c q (f s))

-- where they are equations with one and the same right-hand side
pub equal : {X : Type 0} (c : Coded X) {x y z : X} {A B : Type 1} → ∥ (x ≡ z) × A ∥₁ → ∥ (y ≡ z) × B ∥₁ → x ≡ y
equal c p q = settle c p q (λ e f. e ∙ sym f)

-- what two clauses state, as one fact
pub both : {M : Type 1} {S : M → M → Type 1} {φ ψ : Type 0} {A B : Type 1} → ∥ ((x : M) × (y : M) × S x y × ∥ φ × A ∥₁ × ∥ ψ × B ∥₁) ∥₁ → ∥ (φ × ψ) × (A × B) ∥₁
both p = ∥∥₁_elim p ∥∥₁_prop (λ s. ∥∥₁_elim s.3 ∥∥₁_prop (λ t. ∥∥₁_map s.4 (λ u. ((t.0, u.0), (t.1, u.1)))))

-- ---- contracts that give a meaning: it determines the record

-- the fetch that a source was made of
abbrev fetch_of : Source → Fetch
fetch_of (from_registers []) = Stack (record { 0 = 0 })
fetch_of (from_registers (a ∷ [])) = One (record { 0 = a })
fetch_of (from_registers (a ∷ b ∷ [])) = Two (record { 0 = a }) (record { 0 = b })
fetch_of (from_registers (a ∷ b ∷ c ∷ os)) = Stack (record { 0 = 0 })
fetch_of (from_stack o) = Stack (record { 0 = o })

fetch_source : (f : Fetch) → fetch_of (source_of f) ≡ f
fetch_source (One a) = refl
fetch_source (Two a b) = refl
fetch_source (Stack o) = refl

pub source-same : (r q : Fetch) → source_of r ≡ source_of q → r ≡ q
source-same r q e = sym (fetch_source r) ∙ ap fetch_of e ∙ fetch_source q

pub standing-same : (P : Paper) (n : ℕ) (d : List ℕ) (p : ℕ) (r q : Result Shape Refusal) → IsStanding P n d p r → IsStanding P n d p q → r ≡ q
standing-same P n d p (Ok s) (Ok t) e f = ap Ok (asked-same s t (e.1 ∙ sym f.1))
standing-same P n d p (Ok s) (Err t) e f = absurd (f.0 e.0)
standing-same P n d p (Err s) (Ok t) e f = absurd (e.0 f.0)
standing-same P n d p (Err s) (Err t) e f = ap Err (e.1 ∙ sym f.1)

-- ---- two slices of which a contract says what they are together: what is lent keeps its length, so it says what each is

pub settle_parts : {r s q t : List ℕ} {n : ℕ} {φ ψ : Type 0} {A B : Type 1} → ∥ φ × A ∥₁ → ∥ ψ × B ∥₁ → (φ → ψ → r ++ s ≡ q ++ t) → ∥ length r ≡ n ∥₁ → ∥ length q ≡ n ∥₁ → (r ≡ q) × (s ≡ t)
settle_parts {r} {s} {q} {t} {n} {φ} {ψ} p u same l m = (settle bytes p u (λ e f. (by e f).0), settle bytes p u (λ e f. (by e f).1))
  where
    same_length : length r ≡ length q
    same_length = ∥∥₁_elim l (ℕ_set (length r) (length q)) (λ g. ∥∥₁_elim m (ℕ_set (length r) (length q)) (λ h. g ∙ sym h))

    by : φ → ψ → (r ≡ q) × (s ≡ t)
    by e f = split-image r s q t same_length (same e f)
