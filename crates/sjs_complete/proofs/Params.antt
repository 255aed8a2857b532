-- Names, parameters and the tokens that begin an operand, as the machine takes them.
use Rattle.std.proofs.Common.{◌≡◌, ℕ, List, ◌∷◌, Bool, true, false, refl}
use Rattle.std.proofs.Common.{◌∙◌}
use Rattle.sjs_syntax.specs.declared.statements.Named.{Named}
use Rattle.sjs_syntax.specs.Tree.{ExprTree}
use Rattle.sjs_syntax.specs.Tree.{PlaceTree}
use Rattle.sjs_syntax.specs.Tree.{StmtTrees}
use Rattle.sjs_grammar.specs.Grammar as g
use Rattle.sjs_grammar.specs.Grammar.{named, value_of, EndsAt, NamesAt, ParamsAt, StmtsAt, StmtAt}
use Rattle.sjs_grammar.specs.Grammar.{DeclsAt, GivenAt, InitAt, TestAt, LastAt, CodeAt, BodyAt}
use Rattle.sjs_grammar.specs.Grammar.{ExprAt, LevelAt, UnAt, PlaceAt, CallAt, ArgsAt, SomeArgsAt}
use Rattle.sjs_grammar.specs.Grammar.{ItemsAt, MembersAt, Reads}
use Rattle.sjs_grammar.specs.Kinds as k
use Rattle.sjs_grammar.specs.Kinds.{Kind, Lit, word_of, key_of, level, needs_value}
use Rattle.sjs_grammar.specs.Tokens.{tok, Toks}
use Rattle.sjs_table.specs.Notes as note
use Rattle.sjs_table.specs.Notes.{Note, Out}
use Rattle.sjs_table.specs.Runs.{Stack, ◌▹◌, run}
use Rattle.sjs_table.specs.Symbols as s
use Rattle.sjs_table.specs.Symbols.{Sym, Mode, Mark}
use Rattle.sjs_complete.proofs.Skips.{put, is_place}

-- names up to a closing bracket
c_names : {ts r : Toks} {ns : List Named} {a : ℕ} {x : Bool} →
    NamesAt ts ns (tok a x k.CloseRound ∷ r) → (st : Stack) (o : Out) →
    run ts (s.Names ▹ st) o ≡ run (tok a x k.CloseRound ∷ r) st (note.params ns o)
c_names g.last_name st o = refl
c_names (g.more_names {a = a} {n = n} d) st o = c_names d st (note.Param (named a n) ∷ o)

some_params : {ts r : Toks} {ns : List Named} {a : ℕ} {x : Bool} →
    NamesAt ts ns (tok a x k.CloseRound ∷ r) → (st : Stack) (o : Out) →
    run ts (s.Params ▹ st) o ≡ run ts (s.Names ▹ s.Want s.CloseRound ▹ st) o
some_params g.last_name st o = refl
some_params (g.more_names d) st o = refl

pub c_params : {ts r : Toks} {ns : List Named} → ParamsAt ts ns r → (st : Stack) (o : Out) →
    run ts (s.Params ▹ st) o ≡ run r st (note.params ns o)
c_params g.no_params st o = refl
c_params (g.params d) st o = some_params d st o ∙ c_names d (s.Want s.CloseRound ▹ st) o

open_names : {ts r : Toks} {ns : List Named} {a b : ℕ} {x y : Bool} →
    NamesAt ts ns (tok a x k.CloseRound ∷ tok b y k.Arrow ∷ r) → (at : ℕ) (st : Stack) (o : Out) →
    run ts (s.Open at ▹ st) o
    ≡ run r (s.Body at ▹ st) (note.params ns (note.Params ∷ o))
open_names {r = r} (g.last_name {a = a} {n = n}) at st o =
    put r note.Params _ o ∙ put r (note.Param (named a n)) _ _
open_names (g.more_names {a = a} {n = n} {ts = ts} d) at st o =
    put ts note.Params _ o
    ∙ put ts (note.Param (named a n)) _ _
    ∙ c_names d (s.Want s.CloseRound ▹ s.Want s.Arrow ▹ s.Body at ▹ st) _

-- parameters of an arrow behind their round bracket
pub open_params : {ts r : Toks} {ns : List Named} {b : ℕ} {y : Bool} →
    ParamsAt ts ns (tok b y k.Arrow ∷ r) → (at : ℕ) (st : Stack) (o : Out) →
    run ts (s.Open at ▹ st) o
    ≡ run r (s.Body at ▹ st) (note.params ns (note.Params ∷ o))
open_params {r = r} g.no_params at st o = put r note.Params _ o
open_params (g.params d) at st o = open_names d at st o

-- a function with no name
pub code_is : {ts r : Toks} {ns : List Named} {ss : StmtTrees} → CodeAt ts ns ss r →
    (a : ℕ) (st : Stack) (o : Out) →
    run ts (s.Function a ▹ st) o ≡ run ts (s.Code (note.Function a) ▹ st) o
code_is (g.code d b) a st o = refl

-- an operand without signs, as one with signs before it
pub prim_is : {ts r : Toks} {e : ExprTree} → CallAt ts e r → (st : Stack) (o : Out) →
    run ts (s.Operand ▹ st) o ≡ run ts (s.Prim s.Then ▹ st) o
prim_is g.number st o = refl
prim_is g.text st o = refl
prim_is g.word st o = refl
prim_is g.name st o = refl
prim_is (g.round d) st o = refl
prim_is (g.list d) st o = refl
prim_is (g.object d) st o = refl
prim_is (g.function d) st o = refl
prim_is (g.function_named d) st o = refl
prim_is (g.member d h) st o = prim_is d st o
prim_is (g.index d f) st o = prim_is d st o
prim_is (g.call d f) st o = prim_is d st o

pub place_is : {ts r : Toks} {p : PlaceTree} → PlaceAt ts p r → (st : Stack) (o : Out) →
    run ts (s.Operand ▹ st) o ≡ run ts (s.Prim s.Then ▹ st) o
place_is g.name_place st o = refl
place_is (g.member_place d h) st o = prim_is d st o
place_is (g.index_place d f) st o = prim_is d st o

-- the note of a word that stands for a value
pub word_put : (lit : Lit) (a : ℕ) (m : Mode) (x : Bool) (r : Toks) (st : Stack) (o : Out) →
    run (tok a x (k.Value lit) ∷ r) (s.Prim m ▹ st) o
    ≡ run r (s.After m (is_place (value_of a lit)) a ▹ st) (note.expr (value_of a lit) o)
word_put k.True a m x r st o = put r (note.Truth a true) _ o
word_put k.False a m x r st o = put r (note.Truth a false) _ o
word_put k.Null a m x r st o = put r (note.Null a) _ o
word_put k.Undefined a m x r st o = put r (note.Undefined a) _ o
