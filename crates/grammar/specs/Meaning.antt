-- What the pieces that a sentence says mean: a declaration of written-out types. Assumes nothing: these are definitions.
use Rattle.std.specs.Prelude.{Bool, true, false, cond, List, [], ◌∷◌, ◌++◌, ℕ, ltb}
use Rattle.grammar.specs.Grammar.{Event, basic, long, pointer, nothing, opened, close, size, item, result, variadic}
use Rattle.types.specs.Tree.{Ty, Tys, none, more, group}
use Rattle.types.specs.Tree as tree

-- a result, or void
pub data Result : Type 0 where
  void : Result
  gives : Ty → Result

-- members of an open struct or union, and the base type that the declarators after it go on with
pub record Frame : Type 0 where
  pub union : Bool
  pub members : List Ty
  pub kept : Ty

pub record Read : Type 0 where
  pub result : Result
  pub arguments : List Ty
  pub variadic : Bool
  -- the innermost first
  pub frames : List Frame
  -- the words' type, the type of the declarator, whether it is void instead, and its sizes, the outermost first
  pub base : Ty
  pub read : Ty
  pub empty : Bool
  pub sizes : List ℕ

abbrev pub listed : List Ty → Tys
listed [] = none
listed (t ∷ ts) = more t (listed ts)

abbrev pub arrays : List ℕ → Ty → Ty
arrays [] t = t
arrays (n ∷ ns) t = tree.array (arrays ns t) n

-- the next member of what is open, or else the next argument
abbrev pub place : Ty → List Frame → List Ty → List Frame × List Ty
place t [] arguments = ([], arguments ++ (t ∷ []))
place t (f ∷ fs) arguments = (record { union = f.union; members = f.members ++ (t ∷ []); kept = f.kept } ∷ fs, arguments)

abbrev pub plain : List Frame → Bool → Bool
plain [] v = true
plain (f ∷ fs) v = v

abbrev pub typed : Ty → Read → Read
typed t s = record { result = s.result; arguments = s.arguments; variadic = s.variadic; frames = s.frames; base = t; read = t; empty = false; sizes = [] }

abbrev pub shut : List Frame → Read → Read
shut [] s = s
shut (f ∷ fs) s = record {
  result = s.result;
  arguments = s.arguments;
  variadic = s.variadic;
  frames = fs;
  base = f.kept;
  read = group f.union (listed f.members);
  empty = false;
  sizes = [];
}

-- a size over 65,535 is refused like 65,535 itself, and has no record of its own
abbrev pub clamped : ℕ → ℕ
clamped n = cond (ltb 65535 n) 65535 n

-- `code` is the code of long in the model
abbrev pub mean : ℕ → Read → Event → Read
mean code s (basic c) = typed (tree.basic c) s
mean code s long = typed (tree.basic code) s
mean code s pointer = record { result = s.result; arguments = s.arguments; variadic = s.variadic; frames = s.frames; base = s.base; read = tree.basic 15; empty = false; sizes = [] }
mean code s nothing = record { result = s.result; arguments = s.arguments; variadic = s.variadic; frames = s.frames; base = s.base; read = s.base; empty = true; sizes = [] }
mean code s (opened u) = record {
  result = s.result;
  arguments = s.arguments;
  variadic = s.variadic;
  frames = record { union = u; members = []; kept = s.base } ∷ s.frames;
  base = s.base;
  read = s.base;
  empty = false;
  sizes = [];
}
mean code s close = shut s.frames s
mean code s (size n) = record { result = s.result; arguments = s.arguments; variadic = s.variadic; frames = s.frames; base = s.base; read = s.read; empty = s.empty; sizes = s.sizes ++ (clamped n ∷ []) }
mean code s item =
    let p = place (arrays s.sizes s.read) s.frames s.arguments in
    record { result = s.result; arguments = p.1; variadic = s.variadic; frames = p.0; base = s.base; read = s.base; empty = false; sizes = [] }
mean code s result = record { result = cond s.empty void (gives s.read); arguments = s.arguments; variadic = s.variadic; frames = s.frames; base = s.base; read = s.base; empty = false; sizes = [] }
mean code s variadic = record { result = s.result; arguments = s.arguments; variadic = plain s.frames s.variadic; frames = s.frames; base = s.base; read = s.read; empty = s.empty; sizes = s.sizes }

abbrev pub meaning : ℕ → Read → List Event → Read
meaning code s [] = s
meaning code s (e ∷ es) = meaning code (mean code s e) es

-- before the first piece
abbrev pub blank : Read
blank = record { result = void; arguments = []; variadic = false; frames = []; base = tree.basic 3; read = tree.basic 3; empty = false; sizes = [] }
