-- A name for each number, and no word where there is none. Assumes nothing.
use native.Mathlib.Omega.{arith}
use Rattle.listing.proofs.Words.{general-is, general-none}
use Rattle.listing.proofs.place_writing.put_general.Goals as goal

pub returns-in-0 : goal.returns-in-0
returns-in-0 c =
    general-is c.args.back c.args.n c.if-back.true c.in-0.is c.put.ensures (omega arith)

pub returns-in-1 : goal.returns-in-1
returns-in-1 c =
    general-is c.args.back c.args.n c.if-back.true c.in-1.is c.put-in-1.ensures (omega arith)

pub returns-in-0-n : goal.returns-in-0-n
returns-in-0-n c =
    general-is c.args.back c.args.n c.if-back.false c.in-0-n.is c.put-in-0-n.ensures (omega arith)

pub returns-in-1-n : goal.returns-in-1-n
returns-in-1-n c =
    general-is c.args.back c.args.n c.if-back.false c.in-1-n.is c.put-in-1-n.ensures (omega arith)

pub returns-in-2 : goal.returns-in-2
returns-in-2 c =
    general-is c.args.back c.args.n c.if-back.false c.in-2.is c.put-in-2.ensures (omega arith)

pub returns-in-3 : goal.returns-in-3
returns-in-3 c =
    general-is c.args.back c.args.n c.if-back.false c.in-3.is c.put-in-3.ensures (omega arith)

pub returns-in-4 : goal.returns-in-4
returns-in-4 c =
    general-is c.args.back c.args.n c.if-back.false c.in-4.is c.put-in-4.ensures (omega arith)

pub returns-in-5 : goal.returns-in-5
returns-in-5 c =
    general-is c.args.back c.args.n c.if-back.false c.in-5.is c.put-in-5.ensures (omega arith)

pub returns-in_default : goal.returns-in_default
returns-in_default c =
    general-none c.args.back c.args.n c.args.text.now c.if-back.true (omega arith)

pub returns-in_default-n : goal.returns-in_default-n
returns-in_default-n c =
    general-none c.args.back c.args.n c.args.text.now c.if-back.false (omega arith)
