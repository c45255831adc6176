-- The bytes that are moved lie within the value and within the image, and no byte is moved twice. Assumes nothing.
use mathlib.Core.Path.{◌≡◌, refl, sym, ap₂, ◌∙◌}
use mathlib.Core.Bool.{true, false≢true}
use mathlib.Core.Logic.{◌⊎◌, inl, inr}
use mathlib.Core.List.{◌++◌}
use Prim.Native.Nat.{ℕ, ◌+◌, ◌*◌, ◌-◌, ◌≤◌, ◌<◌}
use native.Mathlib.Omega.{arith}
use lib.ListN.{length, length-append}
use Rattle.addresses.specs.Addresses.{run, All, NoDup, Below, Stretch}
use Rattle.addresses.proofs.Lists.{all_append, nodup_append}
use Rattle.addresses.proofs.Runs.{length_run, all-run, nodup_run}
use Rattle.places.specs.declared.Register.{Register}
use Rattle.places.specs.declared.Register.TheVariants.{General, Vector, Upper, Wide}
use Rattle.places.specs.declared.ReturnPlace.{ReturnPlace}
use Rattle.places.specs.declared.ReturnPlace.TheVariants.{Void, Memory, One, Two, St0, St0St1}
use Rattle.returning.specs.declared.return_image.Parts.{Parts}
use Rattle.returning.specs.Moved.{return_address, moved, no_part, one_part, parts_in, parts_of, sources, targets}
use Rattle.returning.specs.Image.{in_memory}
use Rattle.returning.specs.ImageAsks.{Single, Alone, NoOverlap, Returnable, AskPart}
use Rattle.returning.specs.ImageStatements.{MovedOnce}

-- ---- two runs of addresses

-- one ends before the other begins
abbrev pub Disjoint : ℕ → ℕ → ℕ → ℕ → Type 0
Disjoint p n q m = (p + n ≤ q) ⊎ (q + m ≤ p)

disjoint_runs : (p n q m : ℕ) → Disjoint p n q m → NoDup (run p n ++ run q m)
disjoint_runs p n q m d =
    nodup_append {P = Stretch p n} {Q = Stretch q m} (clash d) (run p n) (run q m) (nodup_run p n) (nodup_run q m)
    (all-run {P = Stretch p n} p n (λ k l h. (l, h))) (all-run {P = Stretch q m} q m (λ k l h. (l, h)))
  where
    clash : Disjoint p n q m → (k : ℕ) → Stretch p n k → Stretch q m k → ⊥
    clash (inl l) k a b = omega (arith, a.0, a.1, b.0, b.1)
    clash (inr l) k a b = omega (arith, a.0, a.1, b.0, b.1)

below-runs : (p n q m bound : ℕ) → p + n ≤ bound → q + m ≤ bound → Below bound (run p n ++ run q m)
below-runs p n q m bound g h =
    all_append (λ k. k < bound) (run p n) (run q m) (all-run {P = λ k. k < bound} p n (λ k l e. omega arith)) (all-run {P = λ k. k < bound} q m (λ k l e. omega arith))

length_runs : (p n q m : ℕ) → length (run p n ++ run q m) ≡ n + m
length_runs p n q m = length-append (run p n) (run q m) ∙ ap₂ ◌+◌ (length_run p n) (length_run q m)

-- ---- the parts of a value

pub record Room (p : Parts) (n : ℕ) : Type 0 where
  pub low : AskPart p.low n 80 16
  pub high : AskPart p.high n 80 16
  pub sources : Disjoint p.low.from.0 p.low.count.0 p.high.from.0 p.high.count.0
  pub targets : Disjoint p.low.to.0 p.low.count.0 p.high.to.0 p.high.count.0

address-inside : (a : Register) → Single a → return_address a + 8 ≤ 48
address-inside (General n) h = omega arith
address-inside (Vector n) h = omega arith
address-inside (Upper n) h = omega arith
address-inside (Wide n) h = absurd h

-- a part in the return image, and one in the upper image
part_low : (k p m n : ℕ) → k + m ≤ n → p + m ≤ 80 → AskPart (moved k p m) n 80 16
part_low k p m n l h = record { source = l; target = omega arith; within = inl h; whole = refl; above = refl }

part-high : (k p m n : ℕ) → k + m ≤ n → 80 ≤ p → p + m ≤ 96 → AskPart (moved k p m) n 80 16
part-high k p m n l g h = record { source = l; target = h; within = inr g; whole = refl; above = refl }

nothing : (n : ℕ) → AskPart no_part n 80 16
nothing n = part_low 0 0 0 n (omega arith) (omega arith)

row_room : (a : Register) (n : ℕ) → return_address a + n ≤ 80 → Room (one_part a n) n
row_room a n h = record { low = part_low 0 (return_address a) n n (omega arith) h; high = nothing n; sources = inr (omega arith); targets = inr (omega arith) }

alone-room : (a : Register) (n : ℕ) → Alone a n → Room (parts_in a n) n
alone-room (General k) n h = row_room (General k) n (omega arith)
alone-room (Vector k) n h = row_room (Vector k) n (omega arith)
alone-room (Upper k) n h = row_room (Upper k) n (omega arith)
alone-room (Wide k) n h = record {
  low = part_low 0 (16 + 16 * k.0) 16 n (omega arith) (omega arith);
  high = part-high 16 (80 + 16 * k.0) (n - 16) n (omega arith) (omega arith) (omega arith);
  sources = inl (omega arith);
  targets = inl (omega arith);
}

pub returnable_room : (place : ReturnPlace) (n : ℕ) → Returnable place n → Room (parts_of place n) n
unfolding Returnable parts_of
returnable_room Void n h = record { low = nothing n; high = nothing n; sources = inl (omega arith); targets = inl (omega arith) }
returnable_room Memory n h = record { low = nothing n; high = nothing n; sources = inl (omega arith); targets = inl (omega arith) }
returnable_room (One a) n h = alone-room a n h
returnable_room (Two a b) n h = record {
  low = part_low 0 (return_address a) 8 n (omega (arith, h.1.1.1.0)) (omega (arith, address-inside a h.0));
  high = part_low 8 (return_address b) (n - 8) n (omega (arith, h.1.1.1.0)) (omega (arith, address-inside b h.1.0, h.1.1.1.1));
  sources = inl (omega arith);
  targets = by h.1.1.0;
}
  where
    by : NoOverlap a b → Disjoint (return_address a) 8 (return_address b) (n - 8)
    by (inl l) = inl l
    by (inr l) = inr (omega (arith, h.1.1.1.1))
returnable_room St0 n h = record {
  low = part_low 0 48 10 n (omega arith) (omega arith);
  high = nothing n;
  sources = inr (omega arith);
  targets = inr (omega arith);
}
returnable_room St0St1 n h = record {
  low = part_low 0 48 10 n (omega arith) (omega arith);
  high = part_low 16 64 10 n (omega arith) (omega arith);
  sources = inl (omega arith);
  targets = inl (omega arith);
}

memory-past : (place : ReturnPlace) (n : ℕ) → in_memory place ≡ true → All (λ k. 8 ≤ k) (targets place n)
unfolding targets parts_of
memory-past Void n e = absurd (false≢true e)
memory-past Memory n e = tt
memory-past (One a) n e = absurd (false≢true e)
memory-past (Two a b) n e = absurd (false≢true e)
memory-past St0 n e = absurd (false≢true e)
memory-past St0St1 n e = absurd (false≢true e)

pub returnable_sound : (place : ReturnPlace) (n : ℕ) → Returnable place n → MovedOnce place n
unfolding sources targets
returnable_sound place n h =
    let p = parts_of place n in
    let r = returnable_room place n h in
    record {
      pairs =
          length_runs p.low.to.0 p.low.count.0 p.high.to.0 p.high.count.0
          ∙ sym (length_runs p.low.from.0 p.low.count.0 p.high.from.0 p.high.count.0);
      once = disjoint_runs _ _ _ _ r.targets;
      inside = below-runs _ _ _ _ 96 r.low.target r.high.target;
      apart = disjoint_runs _ _ _ _ r.sources;
      within = below-runs _ _ _ _ n r.low.source r.high.source;
      past = memory-past place n;
    }
