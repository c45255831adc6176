use mathlib.Core.Path.{◌∙◌}
use Rattle.layout.proofs.Steps.{size-void, size-known}
use Rattle.layout.proofs.described.Described.returned_size.Goals as goal

pub returns-in-Some : goal.returns-in-Some
returns-in-Some c =
    let s = c.in-Some.ensures.0 in
    size-known c.args.self.bytes.now _ c.args.self.tabled c.args.self.judged _ s.0 (λ e. s.2 (s.0 ∙ e)) c.extent_in.result c.extent_in.ensures

pub returns-in-None : goal.returns-in-None
returns-in-None c = size-void c.args.self.bytes.now c.in-None.ensures.1
