-- What each symbol stands for: it leads from tokens, and what was put out, to those behind it.
-- A symbol in the middle of something says that what was read before it goes on to a whole.
use Rattle.std.proofs.Common.{◌≡◌, ℕ, List, [], ◌∷◌, ◌++◌, Bool, true, false, refl}
use Rattle.std.proofs.Common.{Some, sym, ◌∙◌, ap, subst, append_assoc}
use Rattle.sjs_syntax.specs.declared.statements.Binding.{Binding}
use Rattle.sjs_syntax.specs.declared.statements.Named.{Named}
use Rattle.sjs_syntax.specs.Tree.{ExprTree, MaybeExpr, ExprTrees, MemberTrees, BodyTree}
use Rattle.sjs_syntax.specs.Tree.{PlaceTree, DeclaratorTrees, InitTree, StmtTree}
use Rattle.sjs_syntax.specs.Tree.{StmtTrees}
use Rattle.sjs_grammar.specs.Grammar.{named, EndsAt, NamesAt, ParamsAt, StmtsAt, StmtAt}
use Rattle.sjs_grammar.specs.Grammar.{DeclsAt, GivenAt, InitAt, TestAt, LastAt, CodeAt, BodyAt}
use Rattle.sjs_grammar.specs.Grammar.{ExprAt, LevelAt, UnAt, PlaceAt, CallAt, ArgsAt, SomeArgsAt}
use Rattle.sjs_grammar.specs.Grammar.{ItemsAt, MembersAt}
use Rattle.sjs_grammar.specs.Kinds as k
use Rattle.sjs_grammar.specs.Kinds.{Kind, Lit, word_of, key_of, level, needs_value}
use Rattle.sjs_grammar.specs.Tokens.{tok, Toks, begins, broken, carries}
use Rattle.sjs_grammar.specs.Tokens.{comma_next, else_next}
use Rattle.sjs_table.specs.Notes as note
use Rattle.sjs_table.specs.Notes.{Note, Out}
use Rattle.sjs_table.specs.Runs.{Stack, Done, ◌▹◌, onto}
use Rattle.sjs_table.specs.Symbols as s
use Rattle.sjs_table.specs.Symbols.{Sym, Mode, Mark}
use Rattle.sjs_table.specs.Table.{Act, Take, Pass, Stop, act, at_most, then, first}

-- the token that a mark wants
abbrev pub mark_kind : Mark → Kind
mark_kind s.OpenRound = k.OpenRound
mark_kind s.CloseRound = k.CloseRound
mark_kind s.OpenBrace = k.OpenBrace
mark_kind s.CloseBrace = k.CloseBrace
mark_kind s.CloseSquare = k.CloseSquare
mark_kind s.Semi = k.Semi
mark_kind s.Colon = k.Colon
mark_kind s.Arrow = k.Arrow
mark_kind s.While = k.While
mark_kind s.End = k.End

-- what an operand in this mode is read as, from tokens and what was put out to those behind it
abbrev pub Got : Mode → Toks → Out → Toks → Out → Type 0
Got s.First ts o r q = (e : ExprTree) × ExprAt ts e r × (q ≡ note.expr e o)
Got s.Then ts o r q = (e : ExprTree) × UnAt ts e r × (q ≡ note.expr e o)
Got s.Before ts o r q =
    (p : PlaceTree) × PlaceAt ts p r × (carries r ≡ false) × (q ≡ note.place p o)

-- tokens before these are a place, where that is said
abbrev pub Placed : Bool → Toks → Out → Toks → Out → Type 0
Placed true ts o r q = (p : PlaceTree) × PlaceAt ts p r × (q ≡ note.place p o)
Placed false ts o r q = Unit {0}

pub data M : Sym → Toks → Out → Toks → Out → Type 0 where
  put_ : {n : Note} {r : Toks} {o : Out} → M (s.Put n) r o r (n ∷ o)
  want_ : {m : Mark} {a : ℕ} {x : Bool} {r : Toks} {o : Out} →
      M (s.Want m) (tok a x (mark_kind m) ∷ r) o r o
  name_ : {a : ℕ} {x : Bool} {n : List ℕ} {r : Toks} {o : Out} →
      M s.Name (tok a x (k.Name n) ∷ r) o r (note.Named_ (named a n) ∷ o)
  stmts_ : {l : Bool} {ts r : Toks} {o : Out} {ss : StmtTrees} →
      StmtsAt l ts ss r → M (s.Stmts l) ts o r (note.stmts ss o)
  stmt_ : {l : Bool} {ts r : Toks} {o : Out} {d : StmtTree} →
      StmtAt l ts d r → M (s.Stmt l) ts o r (note.stmt d o)
  no_else_ : {l : Bool} {a : ℕ} {r : Toks} {o : Out} →
      else_next r ≡ false → M (s.Else l a) r o r (note.If a ∷ o)
  else_ : {l : Bool} {a b : ℕ} {x : Bool} {ts r : Toks} {o : Out} {d : StmtTree} →
      StmtAt l ts d r →
      M (s.Else l a) (tok b x k.Else ∷ ts) o r (note.IfElse a ∷ note.stmt d o)
  end_ : {ts r : Toks} {o : Out} → EndsAt ts r → M s.End ts o r o
  return_ : {a : ℕ} {ts r : Toks} {o : Out} →
      EndsAt ts r → M (s.Return a) ts o r (note.Return a ∷ o)
  return_value_ : {a : ℕ} {ts m r : Toks} {o : Out} {e : ExprTree} →
      broken ts ≡ false → ExprAt ts e m → EndsAt m r →
      M (s.Return a) ts o r (note.ReturnValue a ∷ note.expr e o)
  decl_ : {d : Binding} {ts r : Toks} {o : Out} {ds : DeclaratorTrees} →
      DeclsAt d ts ds r → M (s.Decl d) ts o r (note.decls ds o)
  given_ : {d : Binding} {ts r : Toks} {o : Out} {e : MaybeExpr} →
      GivenAt d ts e r → M (s.Given d) ts o r (note.given e o)
  no_decls_ : {d : Binding} {r : Toks} {o : Out} →
      comma_next r ≡ false → M (s.Decls d) r o r o
  decls_ : {d : Binding} {a : ℕ} {x : Bool} {ts r : Toks} {o : Out} {ds : DeclaratorTrees} →
      DeclsAt d ts ds r → M (s.Decls d) (tok a x k.Comma ∷ ts) o r (note.decls ds o)
  init_ :
      {at : ℕ} {ts m n z r : Toks} {o : Out} {i : InitTree} {e f : MaybeExpr} {c : StmtTree} →
      InitAt ts i m → TestAt m e n → LastAt n f z → StmtAt true z c r →
      M (s.Init at) ts o r
      (note.For at ∷ note.stmt c (note.maybe f (note.maybe e (note.init i o))))
  init_in_ :
      {at a b c f : ℕ} {x y z w : Bool} {d : Binding} {n : List ℕ} {ts m r : Toks} {o : Out}
      {e : ExprTree} {i : StmtTree} →
      ExprAt ts e (tok f w k.CloseRound ∷ m) → StmtAt true m i r →
      M (s.Init at) (tok a x (k.Bind d) ∷ tok b y (k.Name n) ∷ tok c z k.In ∷ ts) o r
      (note.ForIn at d ∷ note.stmt i (note.expr e (note.Named_ (named b n) ∷ o)))
  for_name_ :
      {at a : ℕ} {x : Bool} {d : Binding} {ts m n z r : Toks} {o : Out}
      {ds : DeclaratorTrees} {e f : MaybeExpr} {c : StmtTree} →
      DeclsAt d ts ds (tok a x k.Semi ∷ m) → TestAt m e n → LastAt n f z → StmtAt true z c r →
      M (s.ForName at d) ts o r
      (note.For at ∷ note.stmt c
      (note.maybe f (note.maybe e (note.DeclareInit d ∷ note.decls ds (note.Decls ∷ o)))))
  for_name_in_ :
      {at b c f : ℕ} {y z w : Bool} {d : Binding} {n : List ℕ} {ts m r : Toks} {o : Out}
      {e : ExprTree} {i : StmtTree} →
      ExprAt ts e (tok f w k.CloseRound ∷ m) → StmtAt true m i r →
      M (s.ForName at d) (tok b y (k.Name n) ∷ tok c z k.In ∷ ts) o r
      (note.ForIn at d ∷ note.stmt i (note.expr e (note.Named_ (named b n) ∷ o)))
  for_next_ :
      {at a b : ℕ} {x : Bool} {d : Binding} {w : List ℕ} {ts m n z r : Toks} {o : Out}
      {ds : DeclaratorTrees} {e f : MaybeExpr} {c : StmtTree} →
      ((y : Bool) → DeclsAt d (tok b y (k.Name w) ∷ ts) ds (tok a x k.Semi ∷ m)) →
      TestAt m e n → LastAt n f z → StmtAt true z c r →
      M (s.ForNext at d b w) ts o r
      (note.For at ∷ note.stmt c
      (note.maybe f (note.maybe e (note.DeclareInit d ∷ note.decls ds (note.Decls ∷ o)))))
  for_next_in_ :
      {at b c f : ℕ} {z w : Bool} {d : Binding} {n : List ℕ} {ts m r : Toks} {o : Out}
      {e : ExprTree} {i : StmtTree} →
      ExprAt ts e (tok f w k.CloseRound ∷ m) → StmtAt true m i r →
      M (s.ForNext at d b n) (tok c z k.In ∷ ts) o r
      (note.ForIn at d ∷ note.stmt i (note.expr e (note.Named_ (named b n) ∷ o)))
  test_ : {ts r : Toks} {o : Out} {e : MaybeExpr} →
      TestAt ts e r → M s.Test ts o r (note.maybe e o)
  last_ : {ts r : Toks} {o : Out} {e : MaybeExpr} →
      LastAt ts e r → M s.Last ts o r (note.maybe e o)
  expr_ : {ts r : Toks} {o q : Out} → Got s.First ts o r q → M s.Expr ts o r q
  operand_ : {ts r : Toks} {o q : Out} → Got s.Then ts o r q → M s.Operand ts o r q
  level_ : {n : ℕ} {ts r : Toks} {o : Out} {e : ExprTree} →
      LevelAt n ts e r → M (s.Level n) ts o r (note.expr e o)
  prim_ : {m : Mode} {ts r : Toks} {o q : Out} → Got m ts o r q → M (s.Prim m) ts o r q
  after_ : {m : Mode} {p : Bool} {at : ℕ} {ts r : Toks} {o q : Out} →
      ((x : Toks) (e : ExprTree) (z : Out) → CallAt x e ts → Placed p x z ts o →
      begins x ≡ at → o ≡ note.expr e z → Got m x z r q) →
      M (s.After m p at) ts o r q
  tail_ : {n j at : ℕ} {ts r : Toks} {o q : Out} →
      ((x : Toks) (e : ExprTree) (z : Out) → at_most j n ≡ true → LevelAt j x e ts →
      begins x ≡ at → o ≡ note.expr e z →
      (f : ExprTree) × LevelAt n x f r × (q ≡ note.expr f z)) →
      M (s.Tail n j at) ts o r q
  choose_ : {at : ℕ} {ts r : Toks} {o q : Out} →
      ((x : Toks) (e : ExprTree) (z : Out) → LevelAt 6 x e ts →
      begins x ≡ at → o ≡ note.expr e z → Got s.First x z r q) →
      M (s.Choose at) ts o r q
  after_name_ : {a : ℕ} {n : List ℕ} {ts r : Toks} {o q : Out} →
      ((x : Bool) → Got s.First (tok a x (k.Name n) ∷ ts) o r q) → M (s.AfterName a n) ts o r q
  open_ : {a : ℕ} {ts r : Toks} {o q : Out} →
      ((x : Bool) → Got s.First (tok a x k.OpenRound ∷ ts) o r q) → M (s.Open a) ts o r q
  open_name_ : {a b : ℕ} {n : List ℕ} {ts r : Toks} {o q : Out} →
      ((x y : Bool) → Got s.First (tok a x k.OpenRound ∷ tok b y (k.Name n) ∷ ts) o r q) →
      M (s.OpenName a b n) ts o r q
  closed_ : {a b : ℕ} {n : List ℕ} {ts r : Toks} {o q : Out} →
      ((c : ℕ) (x y z : Bool) →
      Got s.First (tok a x k.OpenRound ∷ tok b y (k.Name n) ∷ tok c z k.CloseRound ∷ ts) o r q) →
      M (s.Closed a b n) ts o r q
  body_ : {a : ℕ} {ts r : Toks} {o : Out} {f : BodyTree} →
      BodyAt ts f r → M (s.Body a) ts o r (note.body f a o)
  function_ : {a : ℕ} {ts r : Toks} {o : Out} {ns : List Named} {ss : StmtTrees} →
      CodeAt ts ns ss r →
      M (s.Function a) ts o r
      (note.Function a ∷ note.stmts ss (note.Stmts ∷ note.params ns (note.Params ∷ o)))
  function_named_ :
      {a b : ℕ} {x : Bool} {n : List ℕ} {ts r : Toks} {o : Out} {ns : List Named}
      {ss : StmtTrees} →
      CodeAt ts ns ss r →
      M (s.Function a) (tok b x (k.Name n) ∷ ts) o r
      (note.FunctionNamed a ∷ note.stmts ss
      (note.Stmts ∷ note.params ns (note.Params ∷ note.Named_ (named b n) ∷ o)))
  code_ : {n : Note} {ts r : Toks} {o : Out} {ns : List Named} {ss : StmtTrees} →
      CodeAt ts ns ss r →
      M (s.Code n) ts o r (n ∷ note.stmts ss (note.Stmts ∷ note.params ns (note.Params ∷ o)))
  names_ : {ts r : Toks} {o : Out} {ns : List Named} →
      NamesAt ts ns r → M s.Names ts o r (note.params ns o)
  no_more_ : {r : Toks} {o : Out} → M s.MoreNames r o r o
  more_names_ : {a : ℕ} {x : Bool} {ts r : Toks} {o : Out} {ns : List Named} →
      NamesAt ts ns r → M s.MoreNames (tok a x k.Comma ∷ ts) o r (note.params ns o)
  params_ : {ts r : Toks} {o : Out} {ns : List Named} →
      ParamsAt ts ns r → M s.Params ts o r (note.params ns o)
  args_ : {ts r : Toks} {o : Out} {es : ExprTrees} →
      ArgsAt ts es r → M s.Args ts o r (note.exprs es o)
  no_args_ : {a : ℕ} {x : Bool} {r : Toks} {o : Out} →
      M s.MoreArgs (tok a x k.CloseRound ∷ r) o r o
  some_args_ : {a : ℕ} {x : Bool} {ts r : Toks} {o : Out} {es : ExprTrees} →
      SomeArgsAt ts es r → M s.MoreArgs (tok a x k.Comma ∷ ts) o r (note.exprs es o)
  items_ : {ts r : Toks} {o : Out} {es : ExprTrees} →
      ItemsAt ts es r → M s.Items ts o r (note.exprs es o)
  no_items_ : {a : ℕ} {x : Bool} {r : Toks} {o : Out} →
      M s.MoreItems (tok a x k.CloseSquare ∷ r) o r o
  some_items_ : {a : ℕ} {x : Bool} {ts r : Toks} {o : Out} {es : ExprTrees} →
      ItemsAt ts es r → M s.MoreItems (tok a x k.Comma ∷ ts) o r (note.exprs es o)
  members_ : {ts r : Toks} {o : Out} {ms : MemberTrees} →
      MembersAt ts ms r → M s.Members ts o r (note.members ms o)
  no_members_ : {a : ℕ} {x : Bool} {r : Toks} {o : Out} →
      M s.MoreMembers (tok a x k.CloseBrace ∷ r) o r o
  some_members_ : {a : ℕ} {x : Bool} {ts r : Toks} {o : Out} {ms : MemberTrees} →
      MembersAt ts ms r → M s.MoreMembers (tok a x k.Comma ∷ ts) o r (note.members ms o)
  word_ : {at a : ℕ} {x : Bool} {t : Kind} {w : List ℕ} {r : Toks} {o : Out} →
      word_of t ≡ Some w → M (s.Word at) (tok a x t ∷ r) o r (note.Member at w ∷ o)

-- a whole stack: its symbols one behind another
pub data Spells : Stack → Toks → Out → Out → Type 0 where
  done : {test : Toks → Bool} {ts : Toks} {o : Out} →
      test ts ≡ true → Spells (Done test) ts o o
  cons : {y : Sym} {st : Stack} {ts r : Toks} {o p q : Out} →
      M y ts o r p → Spells st r p q → Spells (y ▹ st) ts o q

-- an act says the truth about its symbol and its token
abbrev pub Local : Sym → ℕ → Bool → Kind → Toks → Stack → Out → Out → Act → Type 0
Local y b x t ts st o q (Take ys) = Spells (onto ys st) ts o q → Spells (y ▹ st) (tok b x t
    ∷ ts) o q
Local y b x t ts st o q (Pass n) = M y (tok b x t ∷ ts) o (tok b x t ∷ ts) (n ++ o)
Local y b x t ts st o q Stop = Unit {0}

-- a row of the table
abbrev pub Row : Sym → ℕ → Bool → Kind → Toks → Stack → Out → Out → Type 0
Row y b x t ts st o q = Local y b x t ts st o q (act y b x t)

onto_append : (xs ys : List Sym) (st : Stack) → onto (xs ++ ys) st ≡ onto xs (onto ys st)
onto_append [] ys st = refl
onto_append (x ∷ xs) ys st = ap (λ w. x ▹ w) (onto_append xs ys st)

pub unput : {n : Note} {st : Stack} {ts : Toks} {o q : Out} →
    Spells (s.Put n ▹ st) ts o q → Spells st ts (n ∷ o) q
unput (cons put_ h) = h

-- an act with symbols behind it
pub then_row :
    (y z : Sym) (b : ℕ) (x : Bool) (t : Kind) (ts : Toks) (ys : List Sym) (st : Stack) (o q : Out)
    (c : Act) →
    Local z b x t ts (onto ys st) o q c →
    (Spells (z ▹ onto ys st) (tok b x t ∷ ts) o q → Spells (y ▹ st) (tok b x t ∷ ts) o q) →
    Local y b x t ts st o q (then c ys)
then_row y z b x t ts ys st o q (Take xs) f conv =
    λ h. conv (f (subst (λ w. Spells w ts o q) (onto_append xs ys st) h))
then_row y z b x t ts ys st o q (Pass n) f conv = tt
then_row y z b x t ts ys st o q Stop f conv = tt

abbrev pub NoPass : Act → Type 0
NoPass (Take ys) = Unit {0}
NoPass (Pass n) = ⊥
NoPass Stop = Unit {0}

-- an act at another symbol
pub like_row :
    (y z : Sym) (b : ℕ) (x : Bool) (t : Kind) (ts : Toks) (st : Stack) (o q : Out) (c : Act) →
    NoPass c → Local z b x t ts st o q c →
    (Spells (z ▹ st) (tok b x t ∷ ts) o q → Spells (y ▹ st) (tok b x t ∷ ts) o q) →
    Local y b x t ts st o q c
like_row y z b x t ts st o q (Take ys) n f conv = λ h. conv (f h)
like_row y z b x t ts st o q (Pass n) h f conv = absurd h
like_row y z b x t ts st o q Stop n f conv = tt

-- an act behind a note
pub first_row :
    (y z : Sym) (n : Note) (b : ℕ) (x : Bool) (t : Kind) (ts : Toks) (st : Stack) (o q : Out)
    (c : Act) →
    ((w : Out) → Local z b x t ts st (n ∷ o) w c) →
    ((r : Toks) (w : Out) → M z (tok b x t ∷ ts) (n ∷ o) r w → M y (tok b x t ∷ ts) o r w) →
    Local y b x t ts st o q (first n c)
first_row y z n b x t ts st o q (Take ys) f conv = λ h. turn (f q (unput h))
  where
    turn : Spells (z ▹ st) (tok b x t ∷ ts) (n ∷ o) q → Spells (y ▹ st) (tok b x t ∷ ts) o q
    turn (cons {r = r} {p = p} m h) = cons (conv r p m) h
first_row y z n b x t ts st o q (Pass ns) f conv =
    subst (λ w. M y (tok b x t ∷ ts) o (tok b x t ∷ ts) w) (sym (append_assoc ns (n ∷ []) o))
    (conv (tok b x t ∷ ts) (ns ++ n ∷ o) (f q))
first_row y z n b x t ts st o q Stop f conv = tt

-- an act behind two notes
pub twice_row :
    (y z : Sym) (n i : Note) (b : ℕ) (x : Bool) (t : Kind) (ts : Toks) (st : Stack) (o q : Out)
    (c : Act) →
    ((w : Out) → Local z b x t ts st (i ∷ n ∷ o) w c) →
    ((r : Toks) (w : Out) → M z (tok b x t ∷ ts) (i ∷ n ∷ o) r w → M y (tok b x t ∷ ts) o r w) →
    Local y b x t ts st o q (first n (first i c))
twice_row y z n i b x t ts st o q (Take ys) f conv = λ h. turn (f q (unput (unput h)))
  where
    turn : Spells (z ▹ st) (tok b x t ∷ ts) (i ∷ n ∷ o) q → Spells (y ▹ st) (tok b x t ∷ ts) o q
    turn (cons {r = r} {p = p} m h) = cons (conv r p m) h
twice_row y z n i b x t ts st o q (Pass ns) f conv =
    subst (λ w. M y (tok b x t ∷ ts) o (tok b x t ∷ ts) w)
    (sym (append_assoc (ns ++ i ∷ []) (n ∷ []) o ∙ append_assoc ns (i ∷ []) (n ∷ o)))
    (conv (tok b x t ∷ ts) (ns ++ i ∷ n ∷ o) (f q))
twice_row y z n i b x t ts st o q Stop f conv = tt
