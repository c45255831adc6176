-- What is promised of a written declaration. Assumes nothing: these are definitions.
use Rattle.std.specs.Prelude.{◌≡◌, List, [], ◌∷◌, ℕ, ◌≤◌, ◌<◌}
use Rattle.types.specs.Tree.{Ty, Tys, basic, array, struct, union, none, more}
use Rattle.grammar.specs.Grammar.{Event, Sentence}
use Rattle.grammar.specs.Machine.{accepted, read_text}
use Rattle.grammar.specs.Prototype.{declarations, prototype}
use Rattle.grammar.specs.Meaning.{Result, void, gives, Read, meaning, blank}
use Rattle.declaring.specs.Writing.{Declaration, declaration_text}

-- "count is 1 or more"
abbrev pub Some : Tys → Type 0
Some none = ⊥
Some (more t ts) = Unit {0}

-- a type whose codes have words, whose counts have 16 bits and whose structs and unions have members
unfoldable mutual
  pub Writable : Ty → Type 0
  Writable (basic c) = c < 17
  Writable (array t n) = (n ≤ 65535) × Writable t
  Writable (struct ts) = Some ts × AllWritable ts
  Writable (union ts) = Some ts × AllWritable ts

  pub AllWritable : Tys → Type 0
  AllWritable none = Unit {0}
  AllWritable (more t ts) = Writable t × AllWritable ts

-- "8: an argument or return type that is an array"
abbrev pub NoArray : Ty → Type 0
NoArray (basic c) = Unit {0}
NoArray (array t n) = ⊥
NoArray (struct ts) = Unit {0}
NoArray (union ts) = Unit {0}

abbrev pub Passed : Ty → Type 0
Passed t = Writable t × NoArray t

unfoldable pub AllPassed : List Ty → Type 0
AllPassed [] = Unit {0}
AllPassed (t ∷ ts) = Passed t × AllPassed ts

abbrev pub PassedBack : Result → Type 0
PassedBack void = Unit {0}
PassedBack (gives t) = Passed t

pub record Declarable (d : Declaration) : Type 0 where
  pub back : PassedBack d.returns
  pub all : AllPassed d.arguments

-- what was read, as a declaration
abbrev pub declares : Read → Declaration
declares r = record { returns = r.result; arguments = r.arguments; variadic = r.variadic }

-- "reading that gives" the same declaration, whatever the model: `code` is the code of long
pub record ReadBack (d : Declaration) : Type 0 where
  pub events : List Event
  pub sentence : Sentence declarations prototype (declaration_text d) events
  pub read : read_text declarations prototype (declaration_text d) ≡ accepted events
  pub same : (code : ℕ) → declares (meaning code blank events) ≡ d
