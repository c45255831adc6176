-- The tokens of a declaration are derived: parts of the derivation, by the type. Assumes nothing.
use mathlib.Core.Path.{◌≡◌, refl}
use mathlib.Core.Bool.{Bool, true, false, cond, not}
use mathlib.Core.List.{List, [], ◌∷◌, ◌++◌, append-nil}
use Prim.Native.Nat.{ℕ, suc, ◌<◌}
use native.Mathlib.Omega.{arith}
use lib.Dec.{eqb}
use lib.ListN.{get_or}
use Rattle.types.specs.Tree.{Ty, Tys, array, struct, union, none, more}
use Rattle.types.specs.Tree as tree
use Rattle.listing.specs.Characters.{bytes}
use Rattle.grammar.specs.Tokens.{class_of}
use Rattle.grammar.specs.Grammar.{Event, basic, pointer, nothing, opened, close, size, item, result, variadic, optional, kind_of, said, Derives, done, skip}
use Rattle.grammar.specs.Machine.{fed}
use Rattle.grammar.specs.Prototype.{spellings, table, declarations, prototype, ⟨afterGroup⟩, ⟨firstMember⟩, ⟨moreMembers⟩, ⟨field⟩, ⟨fieldEnd⟩, ⟨fieldsEnd⟩, ⟨item⟩, ⟨dims⟩, ⟨parameters⟩, ⟨moreParameters⟩, ⟨nextParameter⟩, ⟨declared⟩, ⟨returned⟩, ⟨result⟩, ⟨functionName⟩, ⟨called0⟩, ⟨closing⟩, ⟨end⟩}
use Rattle.grammar.specs.Meaning.{Result, void, gives}
use Rattle.declaring.specs.Writing.{words, words_of, member_name, sizes_of, type_tokens, member_tokens, Declaration, result_tokens, further_tokens, parameter_tokens, declaration_tokens}
use Rattle.declaring.specs.Written.{Some, Writable, AllWritable, AllPassed, PassedBack, Declarable}
use Rattle.declaring.proofs.Cases.{each}
use Rattle.declaring.proofs.Numerals.{number-kind, number-said}
use Rattle.declaring.proofs.Paths.{Reads, reads_none, reads-join, reads-behind, reads-token, Move, eat, leave, goes_to, Kinds, end, token, without, way}

-- ---- what the tokens say

abbrev pub event_of : ℕ → Event
event_of c = cond (eqb c 15) pointer (basic c)

unfoldable pub size_events : Ty → List Event
size_events (tree.basic c) = []
size_events (array t n) = size n ∷ size_events t
size_events (struct ts) = []
size_events (union ts) = []

unfoldable mutual
  pub type_events : Ty → List Event
  type_events (tree.basic c) = event_of c ∷ []
  type_events (array t n) = type_events t
  type_events (struct ts) = opened false ∷ (member_events ts ++ (close ∷ []))
  type_events (union ts) = opened true ∷ (member_events ts ++ (close ∷ []))

  pub member_events : Tys → List Event
  member_events none = []
  member_events (more t ts) = type_events t ++ (size_events t ++ (item ∷ member_events ts))

abbrev pub result_events : Result → List Event
result_events void = nothing ∷ []
result_events (gives t) = type_events t

unfoldable pub further_events : Bool → List Ty → List Event
further_events v [] = cond v (variadic ∷ []) []
further_events v (t ∷ ts) = type_events t ++ (item ∷ further_events v ts)

-- ---- where a type may stand, and what stands behind it there

data Position : Type 0 where
  first later initial next back : Position

abbrev symbol : Position → ℕ
symbol first = ⟨firstMember⟩
symbol later = ⟨moreMembers⟩
symbol initial = ⟨parameters⟩
symbol next = ⟨nextParameter⟩
symbol back = ⟨returned⟩

-- further names may follow behind a comma
abbrev field_ends : Bool → List ℕ
field_ends true = ⟨field⟩ ∷ ⟨fieldsEnd⟩ ∷ []
field_ends false = ⟨field⟩ ∷ ⟨fieldEnd⟩ ∷ []

abbrev behind_of : Position → Bool → List ℕ
behind_of first b = field_ends b
behind_of later b = field_ends b
behind_of initial b = ⟨declared⟩ ∷ ⟨item⟩ ∷ ⟨moreParameters⟩ ∷ []
behind_of next b = ⟨declared⟩ ∷ ⟨item⟩ ∷ ⟨moreParameters⟩ ∷ []
behind_of back b = []

-- the words of a basic type
abbrev moves : List (List Move)
moves =
    (eat 14 ∷ leave ∷ leave ∷ []) ∷
    (eat 15 ∷ leave ∷ leave ∷ []) ∷
    (eat 16 ∷ leave ∷ leave ∷ []) ∷
    (eat 17 ∷ leave ∷ leave ∷ []) ∷
    (eat 18 ∷ eat 18 ∷ leave ∷ leave ∷ []) ∷
    (eat 24 ∷ leave ∷ leave ∷ []) ∷
    (eat 21 ∷ leave ∷ leave ∷ []) ∷
    (eat 22 ∷ leave ∷ leave ∷ []) ∷
    (eat 18 ∷ eat 22 ∷ leave ∷ leave ∷ []) ∷
    (eat 25 ∷ leave ∷ leave ∷ []) ∷
    (eat 26 ∷ leave ∷ leave ∷ []) ∷
    (eat 27 ∷ leave ∷ leave ∷ []) ∷
    (eat 21 ∷ eat 23 ∷ leave ∷ leave ∷ []) ∷
    (eat 22 ∷ eat 23 ∷ leave ∷ leave ∷ []) ∷
    (eat 18 ∷ eat 22 ∷ eat 23 ∷ leave ∷ leave ∷ []) ∷
    (eat 13 ∷ eat 11 ∷ leave ∷ []) ∷
    (eat 28 ∷ leave ∷ leave ∷ []) ∷
    []

abbrev moves_of : ℕ → List Move
moves_of c = get_or moves c []

kinds : (c : ℕ) → c < 17 → Kinds declarations (moves_of c) (words_of c)
unfolding words_of words spellings kind_of class_of said
kinds c h =
    each (λ c. Kinds declarations (moves_of c) (words_of c)) 17 0 (
      (token refl refl (without (without end))),
      (
        (token refl refl (without (without end))),
        (
          (token refl refl (without (without end))),
          (
            (token refl refl (without (without end))),
            (
              (token refl refl (token refl refl (without (without end)))),
              (
                (token refl refl (without (without end))),
                (
                  (token refl refl (without (without end))),
                  (
                    (token refl refl (without (without end))),
                    (
                      (token refl refl (token refl refl (without (without end)))),
                      (
                        (token refl refl (without (without end))),
                        (
                          (token refl refl (without (without end))),
                          (
                            (token refl refl (without (without end))),
                            (
                              (token refl refl (token refl refl (without (without end)))),
                              (
                                (token refl refl (token refl refl (without (without end)))),
                                (
                                  (token refl refl (token refl refl (token refl refl (without (without end))))),
                                  (
                                    (token refl refl (token refl refl (without end))),
                                    (
                                      (token refl refl (without (without end))),
                                      tt,
                                    ),
                                  ),
                                ),
                              ),
                            ),
                          ),
                        ),
                      ),
                    ),
                  ),
                ),
              ),
            ),
          ),
        ),
      ),
    )
    c (omega arith) h

Leads : Position → ℕ → Type 0
Leads p c = goes_to declarations (moves_of c) (symbol p ∷ []) ≡ fed (behind_of p (not (eqb c 15))) (event_of c ∷ [])

leads_first : (c : ℕ) → c < 17 → Leads first c
unfolding table Leads
leads_first c h = each (Leads first) 17 0 (refl, (refl, (refl, (refl, (refl, (refl, (refl, (refl, (refl, (refl, (refl, (refl, (refl, (refl, (refl, (refl, (refl, tt))))))))))))))))) c (omega arith) h

leads_later : (c : ℕ) → c < 17 → Leads later c
unfolding table Leads
leads_later c h = each (Leads later) 17 0 (refl, (refl, (refl, (refl, (refl, (refl, (refl, (refl, (refl, (refl, (refl, (refl, (refl, (refl, (refl, (refl, (refl, tt))))))))))))))))) c (omega arith) h

leads_initial : (c : ℕ) → c < 17 → Leads initial c
unfolding table Leads
leads_initial c h = each (Leads initial) 17 0 (refl, (refl, (refl, (refl, (refl, (refl, (refl, (refl, (refl, (refl, (refl, (refl, (refl, (refl, (refl, (refl, (refl, tt))))))))))))))))) c (omega arith) h

leads_next : (c : ℕ) → c < 17 → Leads next c
unfolding table Leads
leads_next c h = each (Leads next) 17 0 (refl, (refl, (refl, (refl, (refl, (refl, (refl, (refl, (refl, (refl, (refl, (refl, (refl, (refl, (refl, (refl, (refl, tt))))))))))))))))) c (omega arith) h

leads_back : (c : ℕ) → c < 17 → Leads back c
unfolding table Leads
leads_back c h = each (Leads back) 17 0 (refl, (refl, (refl, (refl, (refl, (refl, (refl, (refl, (refl, (refl, (refl, (refl, (refl, (refl, (refl, (refl, (refl, tt))))))))))))))))) c (omega arith) h

leads : (p : Position) (c : ℕ) → c < 17 → Leads p c
leads first = leads_first
leads later = leads_later
leads initial = leads_initial
leads next = leads_next
leads back = leads_back

basic-reads : (p : Position) (c : ℕ) → c < 17 → Reads declarations (symbol p ∷ []) (words_of c) (event_of c ∷ []) (behind_of p (not (eqb c 15)))
unfolding Leads
basic-reads p c h = way (kinds c h) (symbol p ∷ []) (leads p c h)

-- a symbol that is left out in silence, behind what was read
then-skip : {ns ms : List ℕ} {n : ℕ} {us : List (List ℕ)} {es : List Event} → declarations.absent n ≡ optional [] → Reads declarations ns us es (n ∷ ms) → Reads declarations ns us es ms
then-skip h a = record { on = λ xs ts fs d. a.on xs ts fs (skip h d refl) }

-- ---- the sizes behind a name

sizes-read : (t : Ty) (ls : List ℕ) → Reads declarations (⟨dims⟩ ∷ ls) (sizes_of t) (size_events t) (⟨dims⟩ ∷ ls)
unfolding sizes_of size_events table spellings kind_of class_of said
sizes-read (tree.basic c) ls = reads_none (⟨dims⟩ ∷ ls)
sizes-read (array t n) ls =
    reads-join (reads-token 7 refl refl refl)
    (reads-join (reads-token 0 (number-kind spellings n) (number-said n) refl)
    (reads-join (reads-token 8 refl refl refl) (sizes-read t ls)))
sizes-read (struct ts) ls = reads_none (⟨dims⟩ ∷ ls)
sizes-read (union ts) ls = reads_none (⟨dims⟩ ∷ ls)

-- ---- a member behind its type: its name, its sizes, a semicolon

name_read : (i : ℕ) (ls : List ℕ) → Reads declarations (⟨field⟩ ∷ ls) (member_name i ∷ []) [] (⟨dims⟩ ∷ ⟨item⟩ ∷ ls)
unfolding table spellings kind_of class_of said
name_read i ls = reads-token 1 refl refl refl

abbrev end_of : Bool → List ℕ
end_of true = ⟨fieldsEnd⟩ ∷ []
end_of false = ⟨fieldEnd⟩ ∷ []

semicolon_read : (b : Bool) → Reads declarations (⟨dims⟩ ∷ ⟨item⟩ ∷ end_of b) (bytes ";" ∷ []) (item ∷ []) (⟨moreMembers⟩ ∷ [])
unfolding table spellings kind_of class_of said
semicolon_read true = way (without (without (token refl refl end))) (⟨dims⟩ ∷ ⟨item⟩ ∷ ⟨fieldsEnd⟩ ∷ []) refl
semicolon_read false = way (without (without (token refl refl end))) (⟨dims⟩ ∷ ⟨item⟩ ∷ ⟨fieldEnd⟩ ∷ []) refl

field_first : (b : Bool) (i : ℕ) → Reads declarations (field_ends b) (member_name i ∷ []) [] (⟨dims⟩ ∷ ⟨item⟩ ∷ end_of b)
field_first true i = name_read i (⟨fieldsEnd⟩ ∷ [])
field_first false i = name_read i (⟨fieldEnd⟩ ∷ [])

field_reads : (b : Bool) (i : ℕ) (t : Ty) {us : List (List ℕ)} {es : List Event} → Reads declarations (⟨moreMembers⟩ ∷ []) us es (⟨moreMembers⟩ ∷ [])
    → Reads declarations (field_ends b) (member_name i ∷ (sizes_of t ++ (bytes ";" ∷ us))) (size_events t ++ (item ∷ es)) (⟨moreMembers⟩ ∷ [])
field_reads b i t a =
    reads-join (field_first b i) (reads-join (sizes-read t (⟨item⟩ ∷ end_of b)) (reads-join (semicolon_read b) a))

-- ---- a struct or a union

abbrev group_word : Bool → List ℕ
group_word true = bytes "union"
group_word false = bytes "struct"

opens : (u : Bool) (p : Position) → Reads declarations (symbol p ∷ []) (group_word u ∷ bytes "{" ∷ []) (opened u ∷ []) (⟨firstMember⟩ ∷ ⟨afterGroup⟩ ∷ behind_of p false)
unfolding table spellings kind_of class_of said
opens false first = way (token refl refl (token refl refl (without end))) (⟨firstMember⟩ ∷ []) refl
opens false later = way (token refl refl (token refl refl (without end))) (⟨moreMembers⟩ ∷ []) refl
opens false initial = way (token refl refl (token refl refl (without end))) (⟨parameters⟩ ∷ []) refl
opens false next = way (token refl refl (token refl refl (without end))) (⟨nextParameter⟩ ∷ []) refl
opens false back = way (token refl refl (token refl refl (without end))) (⟨returned⟩ ∷ []) refl
opens true first = way (token refl refl (token refl refl (without end))) (⟨firstMember⟩ ∷ []) refl
opens true later = way (token refl refl (token refl refl (without end))) (⟨moreMembers⟩ ∷ []) refl
opens true initial = way (token refl refl (token refl refl (without end))) (⟨parameters⟩ ∷ []) refl
opens true next = way (token refl refl (token refl refl (without end))) (⟨nextParameter⟩ ∷ []) refl
opens true back = way (token refl refl (token refl refl (without end))) (⟨returned⟩ ∷ []) refl

closes : Reads declarations (⟨moreMembers⟩ ∷ []) (bytes "}" ∷ []) (close ∷ []) []
unfolding table spellings kind_of class_of said
closes = way (token refl refl (without end)) (⟨moreMembers⟩ ∷ []) refl

after-group : declarations.absent ⟨afterGroup⟩ ≡ optional []
unfolding table
after-group = refl

group_reads : (u : Bool) (p : Position) {us : List (List ℕ)} {es : List Event} → Reads declarations (⟨firstMember⟩ ∷ []) us es (⟨moreMembers⟩ ∷ [])
    → Reads declarations (symbol p ∷ []) (group_word u ∷ bytes "{" ∷ (us ++ (bytes "}" ∷ []))) (opened u ∷ (es ++ (close ∷ []))) (behind_of p false)
group_reads u p a = then-skip after-group (reads-join (opens u p) (reads-behind (⟨afterGroup⟩ ∷ behind_of p false) (reads-join a closes)))

-- further names may follow a member of this type
abbrev listable : Ty → Bool
listable (tree.basic c) = not (eqb c 15)
listable (array t n) = listable t
listable (struct ts) = false
listable (union ts) = false

mutual
  unfolding type_tokens type_events Writable

  type_reads : (t : Ty) → Writable t → (p : Position) → Reads declarations (symbol p ∷ []) (type_tokens t) (type_events t) (behind_of p (listable t))
  type_reads (tree.basic c) h p = basic-reads p c h
  type_reads (array t n) h p = type_reads t h.1 p
  type_reads (struct ts) h p = group_reads false p (first_reads ts h.0 h.1)
  type_reads (union ts) h p = group_reads true p (first_reads ts h.0 h.1)

  first_reads : (ts : Tys) → Some ts → AllWritable ts → Reads declarations (⟨firstMember⟩ ∷ []) (member_tokens 0 ts) (member_events ts) (⟨moreMembers⟩ ∷ [])
  first_reads none s h = absurd s
  first_reads (more t ts) s h = reads-join (type_reads t h.0 first) (field_reads (listable t) 0 t (later-reads ts h.1 1))

  later-reads : (ts : Tys) → AllWritable ts → (i : ℕ) → Reads declarations (⟨moreMembers⟩ ∷ []) (member_tokens i ts) (member_events ts) (⟨moreMembers⟩ ∷ [])
  later-reads none h i = reads_none (⟨moreMembers⟩ ∷ [])
  later-reads (more t ts) h i = reads-join (type_reads t h.0 later) (field_reads (listable t) i t (later-reads ts h.1 (suc i)))

-- ---- parameters

declared_read : Reads declarations (⟨declared⟩ ∷ ⟨item⟩ ∷ ⟨moreParameters⟩ ∷ []) [] (item ∷ []) (⟨moreParameters⟩ ∷ [])
unfolding table
declared_read = way (without (without end)) (⟨declared⟩ ∷ ⟨item⟩ ∷ ⟨moreParameters⟩ ∷ []) refl

further_none : (v : Bool) → Reads declarations (⟨moreParameters⟩ ∷ []) (further_tokens v []) (further_events v []) []
unfolding further_tokens further_events table spellings kind_of class_of said
further_none true = way (token refl refl (token refl refl (without end))) (⟨moreParameters⟩ ∷ []) refl
further_none false = way (without end) (⟨moreParameters⟩ ∷ []) refl

comma_read : Reads declarations (⟨moreParameters⟩ ∷ []) (bytes "," ∷ []) [] (⟨nextParameter⟩ ∷ [])
unfolding table spellings kind_of class_of said
comma_read = way (token refl refl end) (⟨moreParameters⟩ ∷ []) refl

further_reads : (v : Bool) (ts : List Ty) → AllPassed ts → Reads declarations (⟨moreParameters⟩ ∷ []) (further_tokens v ts) (further_events v ts) []
unfolding further_tokens further_events AllPassed
further_reads v [] h = further_none v
further_reads v (t ∷ ts) h = reads-join comma_read (reads-join (type_reads t h.0.0 next) (reads-join declared_read (further_reads v ts h.1)))

parameters_none : (v : Bool) → Reads declarations (⟨parameters⟩ ∷ []) (parameter_tokens v []) (further_events v []) []
unfolding parameter_tokens further_events table spellings kind_of class_of said
parameters_none true = way (token refl refl (without end)) (⟨parameters⟩ ∷ []) refl
parameters_none false = way (token refl refl (without end)) (⟨parameters⟩ ∷ []) refl

parameters_read : (v : Bool) (ts : List Ty) → AllPassed ts → Reads declarations (⟨parameters⟩ ∷ []) (parameter_tokens v ts) (further_events v ts) []
unfolding parameter_tokens further_events AllPassed
parameters_read v [] h = parameters_none v
parameters_read v (t ∷ ts) h = reads-join (type_reads t h.0.0 initial) (reads-join declared_read (further_reads v ts h.1))

-- ---- the declaration

result-reads : (r : Result) → PassedBack r → Reads declarations (⟨returned⟩ ∷ []) (result_tokens r) (result_events r) []
unfolding table spellings kind_of class_of said
result-reads void h = way (token refl refl (without end)) (⟨returned⟩ ∷ []) refl
result-reads (gives t) h = type_reads t h.0 back

called-read : Reads declarations (⟨result⟩ ∷ ⟨functionName⟩ ∷ ⟨called0⟩ ∷ ⟨end⟩ ∷ []) (bytes "f" ∷ bytes "(" ∷ []) (result ∷ []) (⟨parameters⟩ ∷ ⟨closing⟩ ∷ ⟨end⟩ ∷ [])
unfolding table spellings kind_of class_of said
called-read = way (without (token refl refl (token refl refl end))) (⟨result⟩ ∷ ⟨functionName⟩ ∷ ⟨called0⟩ ∷ ⟨end⟩ ∷ []) refl

closing-read : Reads declarations (⟨closing⟩ ∷ ⟨end⟩ ∷ []) (bytes ")" ∷ bytes ";" ∷ []) [] []
unfolding table spellings kind_of class_of said
closing-read = way (token refl refl (token refl refl end)) (⟨closing⟩ ∷ ⟨end⟩ ∷ []) refl

external_read : Reads declarations prototype [] [] (⟨returned⟩ ∷ ⟨result⟩ ∷ ⟨functionName⟩ ∷ ⟨called0⟩ ∷ ⟨end⟩ ∷ [])
unfolding table
external_read = way (without end) prototype refl

unfoldable pub declaration_events : Declaration → List Event
declaration_events d = result_events d.returns ++ (result ∷ (further_events d.variadic d.arguments ++ []))

whole-reads : (d : Declaration) → Declarable d → Reads declarations prototype (declaration_tokens d) (declaration_events d) []
unfolding declaration_tokens declaration_events
whole-reads d h =
    reads-join external_read
    (reads-join (reads-behind (⟨result⟩ ∷ ⟨functionName⟩ ∷ ⟨called0⟩ ∷ ⟨end⟩ ∷ []) (result-reads d.returns h.back))
    (reads-join called-read
    (reads-join (reads-behind (⟨closing⟩ ∷ ⟨end⟩ ∷ []) (parameters_read d.variadic d.arguments h.all)) closing-read)))

pub declaration_derived : (d : Declaration) → Declarable d → Derives declarations prototype (declaration_tokens d) (declaration_events d)
declaration_derived d h =
    rw (append-nil (declaration_tokens d), append-nil (declaration_events d)) at ((whole-reads d h).on [] [] [] done)
