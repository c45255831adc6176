use Rattle.tidying.proofs.writing.Tidied.of_call.Goals as goal

pub returns : goal.returns
returns c = c.of_call-numbering.ensures.0
