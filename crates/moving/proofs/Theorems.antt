-- The theorems on placing and gathering (B8 to B12, C4), of any layout that is ordered: each from the laws of frames and of orders. Assumes nothing.
use Rattle.std.specs.Prelude.{Err, Ok, Result}
use mathlib.Core.Path.{◌≡◌, sym, ap, ap₂, ◌∙◌}
use mathlib.Core.Bool.{true, false, cond}
use mathlib.Core.List.{List, ◌++◌}
use Prim.Native.Nat.{ℕ, ◌+◌, ◌<◌}
use native.Mathlib.Omega.{arith}
use borrow.Author.Tests.{eq-eqb}
use lib.Dec.{eqb}
use lib.ListN.{length, get_or, take, drop, length-take, length-drop, length-append, take-append-drop}
use lib.Seq.{take_at, drop_at}
use Rattle.addresses.specs.Addresses.{All}
use Rattle.moving.specs.Frames.{room, Sound, placed_in, gathered_in, own_address}
use Rattle.moving.specs.Movers.{Mover, Ordered}
use Rattle.moving.specs.Orders.{place_refusal, gather_refusal}
use Rattle.moving.specs.Answers.{place_answer, registers_after, upper_after, stack_after, images_after, gather_answer, values_after}
use Rattle.moving.specs.Statements.{PlacesAll, AddressUnseen, GathersPlaced, Clean, ComesBack, PlacesGathered, UnusedUnseen, TwelveExactly, NoSharedImage}
use Rattle.moving.proofs.Frames.{length-placed, length-gathered, image-placed, placed-zero, unused_gathered, placed-unseen, gathered-placed, own-placed, placed-image, placed-gathered}
use Rattle.moving.proofs.Orders.{Fits, gather-fits, fits-gather, place-behind, place-accepted, place-twelve, broken-some, some-broken, broken-never, never_broken}
use Rattle.form.specs.declared.Refusal.{Refusal}
use Rattle.units.specs.declared.Registers.{Registers}

module _ (M : Mover) (O : Ordered M) where
  -- ---- what is sure of a call that is accepted, and what stands in the buffers after it

  -- three parts of a list are the list
  parts_whole : (m n : ℕ) (x : List ℕ) → take m x ++ (take n (drop m x) ++ drop n (drop m x)) ≡ x
  parts_whole m n x = ap (λ (z : List ℕ). take m x ++ z) (take-append-drop n (drop m x)) ∙ take-append-drop m x

  module _ (d : List ℕ) (h : ℕ) (vals r y s : List ℕ) (ok : place_refusal M d h vals (length r) (length y) (length s) ≡ 0) where
    placed-fits : Fits M O d (length vals) (length r) (length y) (length s)
    placed-fits = gather-fits M O d (length vals) (length r) (length y) (length s) (place-accepted M O d h vals (length r) (length y) (length s) ok).0

    placed-sound : Sound (M.frame d)
    placed-sound = O.sound d placed-fits.accepted

    accepts : eqb (place_refusal M d h vals (length r) (length y) (length s)) 0 ≡ true
    accepts = eq-eqb (place_refusal M d h vals (length r) (length y) (length s)) 0 ok

    abbrev placed : List ℕ
    placed = placed_in (M.frame d) h vals

    registers-are : registers_after M d h vals r y s ≡ take (M.frame d).registers placed
    unfolding registers_after
    registers-are = rw accepts

    upper_is : upper_after M d h vals r y s ≡ take (M.frame d).upper (drop (M.frame d).registers placed)
    unfolding upper_after
    upper_is = rw accepts

    stack_is : stack_after M d h vals r y s ≡ drop (M.frame d).upper (drop (M.frame d).registers placed)
    unfolding stack_after
    stack_is = rw accepts

    all_are : images_after M d h vals r y s ≡ placed
    all_are =
        ap₂ (λ (x z : List ℕ). x ++ z) registers-are (ap₂ (λ (x z : List ℕ). x ++ z) upper_is stack_is)
        ∙ parts_whole (M.frame d).registers (M.frame d).upper placed

    rest-long : length (drop (M.frame d).registers placed) ≡ (M.frame d).upper + (M.frame d).stack
    rest-long = length-drop (M.frame d).registers placed ∙ omega (arith, length-placed (M.frame d) h vals)

    placed-lengths : (length (registers_after M d h vals r y s) ≡ (M.frame d).registers) × (length (upper_after M d h vals r y s) ≡ (M.frame d).upper)
        × (length (stack_after M d h vals r y s) ≡ (M.frame d).stack)
    placed-lengths = (
      ap length registers-are ∙ length-take (M.frame d).registers placed ∙ omega (arith, length-placed (M.frame d) h vals),
      ap length upper_is ∙ length-take (M.frame d).upper (drop (M.frame d).registers placed) ∙ omega (arith, rest-long),
      ap length stack_is ∙ length-drop (M.frame d).upper (drop (M.frame d).registers placed) ∙ omega (arith, rest-long),
    )

  module _ (d r y s v : List ℕ) (ok : gather_refusal M d (length v) (length r) (length y) (length s) ≡ 0) where
    values-are : values_after M d r y s v ≡ gathered_in (M.frame d) (r ++ (y ++ s))
    unfolding values_after
    values-are = rw (eq-eqb (gather_refusal M d (length v) (length r) (length y) (length s)) 0 ok)

    answer-is : gather_answer M d r y s (length v) ≡ Ok (own_address (M.frame d) (r ++ (y ++ s)))
    unfolding gather_answer
    answer-is = rw (eq-eqb (gather_refusal M d (length v) (length r) (length y) (length s)) 0 ok)

  -- ---- the theorems

  pub places_all : PlacesAll M
  places_all d h vals r y s ok img = (
    λ e. rw (sym (all_are d h vals r y s ok) ∙ e) at (placed-image (M.frame d) (placed-sound d h vals r y s ok) h vals (placed-fits d h vals r y s ok).values),
    λ i. all_are d h vals r y s ok ∙ image-placed (M.frame d) h vals img i,
  )

  pub address_unseen : AddressUnseen M
  unfolding place_answer registers_after upper_after stack_after place_refusal
  address_unseen d h g vals r y s e = (
    ap answer same,
    image (λ x. take (M.frame d).registers x) r,
    image (λ x. take (M.frame d).upper (drop (M.frame d).registers x)) y,
    image (λ x. drop (M.frame d).upper (drop (M.frame d).registers x)) s,
  )
    where
      answer : ℕ → Result Registers Refusal
      answer n = cond (eqb n 0) (Ok (M.count d)) (Err (M.told d n))

      same : place_refusal M d h vals (length r) (length y) (length s) ≡ place_refusal M d g vals (length r) (length y) (length s)
      same = rw (O.unseen d h g e)

      image : (f : List ℕ → List ℕ) (before : List ℕ)
          → cond (eqb (place_refusal M d h vals (length r) (length y) (length s)) 0) (f (placed_in (M.frame d) h vals)) before
          ≡ cond (eqb (place_refusal M d g vals (length r) (length y) (length s)) 0) (f (placed_in (M.frame d) g vals)) before
      image f before = ap₂ (λ (n : ℕ) (x : List ℕ). cond (eqb n 0) (f x) before) same (placed-unseen (M.frame d) h g vals e)

  pub gathers_placed : GathersPlaced M
  gathers_placed d h vals r y s v b ok l =
      let f = placed-fits d h vals r y s ok in
      let sound = placed-sound d h vals r y s ok in
      let q = registers_after M d h vals r y s in
      let w = upper_after M d h vals r y s in
      let t = stack_after M d h vals r y s in
      let long = placed-lengths d h vals r y s ok in
      let again : gather_refusal M d (length v) (length q) (length w) (length t) ≡ 0 =
      fits-gather M O d (length v) (length q) (length w) (length t)
      (record { accepted = f.accepted; values = l ∙ f.values; registers = long.0; upper = long.1; stack = long.2 }) in (
        answer-is d q w t v again
            ∙ ap Ok
            (ap (own_address (M.frame d)) (all_are d h vals r y s ok)
            ∙ own-placed (M.frame d) sound h vals (O.fits d h b (place-accepted M O d h vals (length r) (length y) (length s) ok).1)),
        values-are d q w t v again ∙ ap (gathered_in (M.frame d)) (all_are d h vals r y s ok) ∙ gathered-placed (M.frame d) sound h vals f.values,
      )

  pub unused_unseen : UnusedUnseen M
  unfolding gather_answer values_after
  unused_unseen d r y s q w t v e g f same =
      let z = unused_gathered (M.frame d) (r ++ (y ++ s)) (q ++ (w ++ t)) same in
      (ap answer z.1 ∙ rw (e, g, f), ap left z.0 ∙ rw (e, g, f))
    where
      answer : ℕ → Result ℕ Refusal
      answer x =
          cond (eqb (gather_refusal M d (length v) (length r) (length y) (length s)) 0) (Ok x)
          (Err (M.told d (gather_refusal M d (length v) (length r) (length y) (length s))))

      left : List ℕ → List ℕ
      left x = cond (eqb (gather_refusal M d (length v) (length r) (length y) (length s)) 0) x v

  pub twelve_exactly : TwelveExactly M
  twelve_exactly d h vals r y s = (
    λ e. let k = place-twelve M O d h vals r y s e in (k.0, k.1, broken-some M d vals k.2),
    λ p. place-behind M O d h vals r y s p.0 p.1 true (some-broken M d vals p.2.0 p.2.1),
  )

  pub no_shared_image : NoSharedImage M
  no_shared_image d h g vals wals r y s q w t a b e k f =
      let sound = placed-sound d h vals r y s a in
      sym (gathered-placed (M.frame d) sound h vals (placed-fits d h vals r y s a).values)
      ∙ ap (gathered_in (M.frame d))
      (sym (all_are d h vals r y s a) ∙ ap₂ (λ (x z : List ℕ). x ++ z) e (ap₂ (λ (x z : List ℕ). x ++ z) k f) ∙ all_are d g wals q w t b)
      ∙ gathered-placed (M.frame d) sound g wals (placed-fits d g wals q w t b).values

  -- images gathered and placed again
  module _ (d r y s v q w t : List ℕ) (bytes : All (λ k. get_or (r ++ (y ++ s)) k 0 < 256) (M.frame d).address)
      (ok : gather_refusal M d (length v) (length r) (length y) (length s) ≡ 0) (as_long : length q ≡ length r) (as_high : length w ≡ length y)
      (as-deep : length t ≡ length s) where
    abbrev vals : List ℕ
    vals = values_after M d r y s v

    abbrev own : ℕ
    own = own_address (M.frame d) (r ++ (y ++ s))

    back-clean : ComesBack M d own vals r y s q w t → Clean M d (r ++ (y ++ s))
    back-clean c =
        let k = place-accepted M O d own vals (length q) (length w) (length t) c.accepted in
        record {
          zeros = λ n l u. ap (λ (x : List ℕ). get_or x n 0) (sym image) ∙ placed-zero (M.frame d) own vals n u;
          bools = rw (values-are d r y s v ok) at (broken-never M d vals k.2);
          address = k.1;
        }
      where
        image : placed_in (M.frame d) own vals ≡ r ++ (y ++ s)
        image =
            sym (all_are d own vals q w t c.accepted) ∙ ap₂ (λ (x z : List ℕ). x ++ z) c.registers (ap₂ (λ (x z : List ℕ). x ++ z) c.upper c.stack)

    fit : Fits M O d (length v) (length r) (length y) (length s)
    fit = gather-fits M O d (length v) (length r) (length y) (length s) ok

    clean_back : Clean M d (r ++ (y ++ s)) → ComesBack M d own vals r y s q w t
    clean_back c = record {
      accepted = accepted;
      registers = registers-are d own vals q w t accepted ∙ ap (take (M.frame d).registers) image ∙ take_at r (y ++ s) (M.frame d).registers fit.registers;
      upper = upper_is d own vals q w t accepted ∙ ap (take (M.frame d).upper) behind ∙ take_at y s (M.frame d).upper fit.upper;
      stack = stack_is d own vals q w t accepted ∙ ap (drop (M.frame d).upper) behind ∙ drop_at y s (M.frame d).upper fit.upper;
    }
      where
        lengths : Fits M O d (length vals) (length q) (length w) (length t)
        lengths = record {
          accepted = fit.accepted;
          values = ap length (values-are d r y s v ok) ∙ length-gathered (M.frame d) (r ++ (y ++ s));
          registers = as_long ∙ fit.registers;
          upper = as_high ∙ fit.upper;
          stack = as-deep ∙ fit.stack;
        }

        accepted : place_refusal M d own vals (length q) (length w) (length t) ≡ 0
        accepted =
            place-behind M O d own vals (length q) (length w) (length t) (fits-gather M O d (length vals) (length q) (length w) (length t) lengths) c.address false
            (never_broken M d vals (rw (values-are d r y s v ok) c.bools))

        long : length (r ++ (y ++ s)) ≡ room (M.frame d)
        long = length-append r (y ++ s) ∙ omega (arith, length-append y s, fit.registers, fit.upper, fit.stack)

        image : placed_in (M.frame d) own vals ≡ r ++ (y ++ s)
        image =
            ap (placed_in (M.frame d) own) (values-are d r y s v ok)
            ∙ placed-gathered (M.frame d) (O.sound d fit.accepted) (r ++ (y ++ s)) long bytes c.zeros

        behind : drop (M.frame d).registers (placed_in (M.frame d) own vals) ≡ y ++ s
        behind = ap (drop (M.frame d).registers) image ∙ drop_at r (y ++ s) (M.frame d).registers fit.registers

  pub places_gathered : PlacesGathered M
  places_gathered d r y s v q w t b a e g f = (back-clean d r y s v q w t b a e g f, clean_back d r y s v q w t b a e g f)
