-- A written declaration is read back: request 2026-08, "reading that gives the tidy form of that part". Assumes nothing.
use Rattle.grammar.specs.Grammar.{Sentence}
use Rattle.grammar.specs.Prototype.{declarations, prototype}
use Rattle.grammar.proofs.Prototype.{prototype-promises}
use Rattle.declaring.specs.Writing.{Declaration, declaration_text}
use Rattle.declaring.specs.Written.{Declarable, ReadBack}
use Rattle.declaring.proofs.Derived.{declaration_events, declaration_derived}
use Rattle.declaring.proofs.Held.{declaration_cut}
use Rattle.declaring.proofs.Meant.{declaration_means}

declaration_sentence : (d : Declaration) → Declarable d → Sentence declarations prototype (declaration_text d) (declaration_events d)
declaration_sentence d h = rw (declaration_cut d h) (declaration_derived d h)

pub read_back : (d : Declaration) → Declarable d → ReadBack d
read_back d h = record {
  events = declaration_events d;
  sentence = declaration_sentence d h;
  read = (prototype-promises.accepts (declaration_text d) (declaration_events d)).1 (declaration_sentence d h);
  same = λ code. declaration_means code d h;
}
