-- Each number of the tidy form is a byte. Assumes nothing.
use mathlib.Core.List.{List, [], ◌∷◌, ◌++◌, map}
use Prim.Native.Nat.{ℕ, zero, suc, ◌+◌, ◌≤◌, ◌<◌}
use native.Mathlib.Omega.{arith}
use lib.ListN.{length}
use Rattle.description.specs.Description.{IsBytes}
use Rattle.form.proofs.Form.{accepted-counts}
use Rattle.types.specs.Tree.{Ty, Tys, basic, array, struct, union, none, more}
use Rattle.types.proofs.Large.{accepted-form}
use Rattle.uses.proofs.Uses.{accepted-types}
use Rattle.layout.proofs.Verdict.{accepted-uses}
use Rattle.tidying.specs.Call.{Returned, void, returned, call_of}
use Rattle.tidying.specs.Numbering.{index_of, table_of}
use Rattle.tidying.specs.Ordered.{at, AllBelow, Below}
use Rattle.tidying.specs.Tidy.{members_of, many_of, separate, kind_of, second_of, count_of, records_of, numbers_of, runs_of, return_number, tidy_by, tidy_of}
use Rattle.tidying.specs.Answers.{tidied}
use Rattle.tidying.specs.Statements.{Tidiable}
use Rattle.tidying.proofs.Reached.{ReturnNumbered, return_index, table-right}
use Rattle.tidying.proofs.Decoded.{numbered-at}
use Rattle.tidying.proofs.Laid.{many-call, flags-call, named-call}
use Rattle.tidying.proofs.Accepted.{Fine, types-low, fine}

-- the same, number after number
abbrev AllBytes : List ℕ → Type 0
AllBytes [] = Unit {0}
AllBytes (x ∷ l) = (x < 256) × AllBytes l

each : (l : List ℕ) → AllBytes l → IsBytes l
each [] p i = omega arith
each (x ∷ l) p zero = p.0
each (x ∷ l) p (suc i) = each l p.1 i

append-bytes : (a b : List ℕ) → AllBytes a → AllBytes b → AllBytes (a ++ b)
append-bytes [] b p q = q
append-bytes (x ∷ a) b p q = (p.0, append-bytes a b p.1 q)

-- code, number and count of a type, and the numbers of its members, fit their bytes
unfoldable Fits : List Ty → Ty → Type 0
Fits table (basic c) = c < 256
Fits table (array t n) = (index_of table t < 256) × (n < 65536)
Fits table (struct ts) = AllBelow table 256 ts
Fits table (union ts) = AllBelow table 256 ts

more-below : (table : List Ty) (k : ℕ) (ts : Tys) → k ≤ 256 → AllBelow table k ts → AllBelow table 256 ts
unfolding AllBelow
more-below table k none l p = tt
more-below table k (more t ts) l p = (omega (arith, l, p.0), more-below table k ts l p.1)

below-fits : (table : List Ty) (k : ℕ) (t : Ty) → k ≤ 256 → Below table k t → Fine t → Fits table t
unfolding Fits Below Fine
below-fits table k (basic c) l p f = omega (arith, f)
below-fits table k (array t n) l p f = (omega (arith, l, p), omega (arith, f.1))
below-fits table k (struct ts) l p f = more-below table k ts l p
below-fits table k (union ts) l p f = more-below table k ts l p

module _ (table : List Ty) where
  numbers-bytes : (ts : Tys) → AllBelow table 256 ts → AllBytes (numbers_of table ts)
  unfolding numbers_of AllBelow
  numbers-bytes none p = tt
  numbers-bytes (more t ts) p = (p.0, numbers-bytes ts p.1)

  members-bytes : (t : Ty) → Fits table t → AllBytes (numbers_of table (members_of t))
  unfolding Fits AllBelow
  members-bytes (basic c) f = numbers-bytes none tt
  members-bytes (array t n) f = numbers-bytes none tt
  members-bytes (struct ts) f = numbers-bytes ts f
  members-bytes (union ts) f = numbers-bytes ts f

  runs-bytes : (l : List Ty) → ((k : ℕ) → k < length l → Fits table (at l k)) → AllBytes (runs_of table l)
  unfolding runs_of
  runs-bytes [] p = tt
  runs-bytes (t ∷ l) p =
      append-bytes (numbers_of table (members_of t)) (runs_of table l) (members-bytes t (p 0 (omega arith))) (runs-bytes l (λ k h. p (suc k) (omega arith)))

  kind-byte : (t : Ty) → kind_of t < 256
  kind-byte (basic c) = omega arith
  kind-byte (array t n) = omega arith
  kind-byte (struct ts) = omega arith
  kind-byte (union ts) = omega arith

  second-byte : (m : ℕ) (t : Ty) → m < 256 → Fits table t → second_of table m t < 256
  unfolding Fits
  second-byte m (basic c) h f = f
  second-byte m (array t n) h f = f.0
  second-byte m (struct ts) h f = h
  second-byte m (union ts) h f = h

  count-bytes : (t : Ty) → many_of (members_of t) < 256 → Fits table t → count_of t < 65536
  unfolding Fits
  count-bytes (basic c) h f = omega arith
  count-bytes (array t n) h f = f.1
  count-bytes (struct ts) h f = omega (arith, h)
  count-bytes (union ts) h f = omega (arith, h)

  records-bytes : (m : ℕ) (l : List Ty) → m + separate l ≤ 255 → ((k : ℕ) → k < length l → Fits table (at l k)) → AllBytes (records_of table m l)
  unfolding records_of separate
  records-bytes m [] h p = tt
  records-bytes m (t ∷ l) h p =
      let few = count-bytes t (omega (arith, h)) (p 0 (omega arith)) in (
        kind-byte t,
        (
          second-byte m t (omega (arith, h)) (p 0 (omega arith)),
          (omega arith, (omega (arith, few), records-bytes (m + many_of (members_of t)) l (omega (arith, h)) (λ k q. p (suc k) (omega arith)))),
        ),
      )

  arguments-bytes : (l : List Ty) → ((j : ℕ) → j < length l → index_of table (at l j) < 256) → AllBytes (map (index_of table) l)
  arguments-bytes [] p = tt
  arguments-bytes (t ∷ l) p = (p 0 (omega arith), arguments-bytes l (λ j h. p (suc j) (omega arith)))

  return_byte : length table ≤ 64 → (r : Returned) → ReturnNumbered table r → return_number table r < 256
  return_byte h void p = omega arith
  return_byte h (returned t) p = omega (arith, h, return_index table t p)

pub tidy-bytes : (d : List ℕ) → Tidiable d → IsBytes (tidied d)
unfolding tidy_of tidy_by
tidy-bytes d t =
    let table = table_of (call_of d) in
    let right = accepted-uses d t.accepted in
    let counts = accepted-counts d (accepted-form d (accepted-types d right)) in
    let low = types-low d right in
    let made = table-right (call_of d) in
    let fits : (k : ℕ) → k < length table → Fits table (at table k) = λ k l. below-fits table k (at table k) (omega (arith, l, low)) (made.ordered.parts k l) (fine d right k l) in
    let records = records-bytes table 0 table (omega (arith, t.room)) fits in
    let runs = runs-bytes table table fits in
    let arguments = arguments-bytes table (call_of d).arguments (λ j l. omega (arith, low, numbered-at table (call_of d).arguments j l made.arguments)) in
    let rest = append-bytes (records_of table 0 table) _ records (append-bytes (runs_of table table) _ runs arguments) in
    each (tidied d) (
      omega arith,
      (
        omega arith,
        (
          omega arith,
          (
            omega arith,
            (
              omega arith,
              (
                omega (arith, low),
                (
                  omega (arith, flags-call d, counts.flags),
                  (
                    omega (arith, named-call d, counts.named, counts.arguments),
                    (omega (arith, many-call d, counts.arguments), (return_byte table low (call_of d).returns made.returns, (omega (arith, t.room), rest))),
                  ),
                ),
              ),
            ),
          ),
        ),
      ),
    )
