-- The bytes that the numbers say are the tidy bytes of the call that was read. Assumes nothing.
use mathlib.Core.Path.{◌≡◌, refl, ap, ap₂, ◌∙◌}
use mathlib.Core.List.{List, [], ◌∷◌, ◌++◌, map}
use Prim.Native.Nat.{ℕ, suc, ◌+◌}
use lib.ListN.{length}
use Rattle.types.specs.Tree.{Ty, Tys, basic, array, struct, union, none, more}
use Rattle.tidying.specs.Numbering.{index_of, table_of}
use Rattle.tidying.specs.Tidy.{members_of, many_of, separate, kind_of, second_of, count_of, records_of, numbers_of, runs_of, tidy_by, tidy_of}
use Rattle.grammar.specs.Grammar.{Event}
use Rattle.grammar.specs.Meaning.{Read, meaning, blank, Frame}
use Rattle.collecting.specs.Rows.{Row, run_of, members_in, kind_in, second_in, count_in, records_in, runs_in}
use Rattle.collecting.specs.Count.{State, let_go, steps, start, bytes_by, bytes_of}
use Rattle.collecting.specs.Image.{row_of, rows_of, image, call_from, outside, under, Image, AllTimely}
use Rattle.collecting.proofs.Extends.{rows-length}
use Rattle.collecting.proofs.Counted.{ordered-outside, ordered-under, let_go_lem, steps-right, start_right}

numbers-length : (a : List Ty) (ts : Tys) → length (numbers_of a ts) ≡ many_of ts
unfolding numbers_of
numbers-length a none = refl
numbers-length a (more t ts) = ap suc (numbers-length a ts)

run_is : (a : List Ty) (t : Ty) → run_of (row_of a t) ≡ numbers_of a (members_of t)
unfolding numbers_of
run_is a (basic c) = refl
run_is a (array t n) = refl
run_is a (struct ts) = refl
run_is a (union ts) = refl

run_length : (a : List Ty) (t : Ty) → length (run_of (row_of a t)) ≡ many_of (members_of t)
run_length a t = ap length (run_is a t) ∙ numbers-length a (members_of t)

pub members-are : (a l : List Ty) → members_in (rows_of a l) ≡ separate l
unfolding members_in rows_of separate
members-are a [] = refl
members-are a (t ∷ ts) = ap₂ (λ (x y : ℕ). x + y) (run_length a t) (members-are a ts)

kind-is : (a : List Ty) (t : Ty) → kind_in (row_of a t) ≡ kind_of t
kind-is a (basic c) = refl
kind-is a (array t n) = refl
kind-is a (struct ts) = refl
kind-is a (union ts) = refl

second_is : (a : List Ty) (m : ℕ) (t : Ty) → second_in m (row_of a t) ≡ second_of a m t
second_is a m (basic c) = refl
second_is a m (array t n) = refl
second_is a m (struct ts) = refl
second_is a m (union ts) = refl

count-is : (a : List Ty) (t : Ty) → count_in (row_of a t) ≡ count_of t
count-is a (basic c) = refl
count-is a (array t n) = refl
count-is a (struct ts) = numbers-length a ts
count-is a (union ts) = numbers-length a ts

records-are : (a : List Ty) (m : ℕ) (l : List Ty) → records_in m (rows_of a l) ≡ records_of a m l
unfolding records_in rows_of records_of
records-are a m [] = refl
records-are a m (t ∷ ts) = rw (kind-is a t, second_is a m t, count-is a t, run_length a t, records-are a (m + many_of (members_of t)) ts) refl

runs-are : (a l : List Ty) → runs_in (rows_of a l) ≡ runs_of a l
unfolding runs_in rows_of runs_of
runs-are a [] = refl
runs-are a (t ∷ ts) = ap₂ (λ (x y : List ℕ). x ++ y) (run_is a t) (runs-are a ts)

-- where nothing is open, what the rows are when the last type in hand is let go
under-ended : (a : List Ty) (fs : List Frame) → fs ≡ [] → under a fs ≡ a
unfolding under
under-ended a fs e = rw e

pub rows-ended : (s : Read) (n : State) → Image s n → s.frames ≡ [] → let_go n.rows n.hand ≡ image (outside s)
rows-ended s n im e = let_go_lem (under (outside s) s.frames) (ordered-under (outside s) (ordered-outside s) s.frames) s.read n.rows n.hand im.hand ∙ ap image (under-ended (outside s) s.frames e)

pub table-ended : (bit : ℕ) (s : Read) → table_of (call_from bit s) ≡ outside s
unfolding table_of
table-ended bit s = refl

map-length : (f : Ty → ℕ) (ts : List Ty) → length (map f ts) ≡ length ts
map-length f [] = refl
map-length f (t ∷ ts) = ap suc (map-length f ts)

pub bytes-ended : (bit : ℕ) (s : Read) (n : State) → Image s n → s.frames ≡ [] → bytes_of bit n ≡ tidy_of (call_from bit s)
unfolding tidy_of tidy_by table_of
bytes-ended bit s n im e =
    ap (λ (rows : List Row). bytes_by bit rows n) (rows-ended s n im e)
    ∙ rw (im.variadic, im.arguments, im.result, map-length (index_of (outside s)) s.arguments, rows-length (outside s) (outside s), members-are (outside s) (outside s), records-are (outside s) 0 (outside s), runs-are (outside s) (outside s)) refl

-- what is read, by numbers
pub read_right : (l bit : ℕ) (es : List Event) → AllTimely l blank es → (meaning l blank es).frames ≡ [] → bytes_of bit (steps l start es) ≡ tidy_of (call_from bit (meaning l blank es))
read_right l bit es h e = bytes-ended bit (meaning l blank es) (steps l start es) (steps-right l blank start es start_right h) e
