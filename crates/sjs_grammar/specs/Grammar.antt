-- The grammar of scripts: which tokens are which tree. Each relation leads from tokens to the
-- tokens behind what was read, with a clause for each way in which it can be written.
use Rattle.std.specs.Prelude.{◌≡◌, ℕ, zero, suc, pos, List, [], ◌∷◌, Bool, true, false}
use Rattle.std.specs.Prelude.{Some, None}
use Rattle.sjs_syntax.specs.declared.signs.AssignSign.{AssignSign}
use Rattle.sjs_syntax.specs.declared.signs.AssignSign.TheVariants as assign
use Rattle.sjs_syntax.specs.declared.signs.OneSign.TheVariants as one
use Rattle.sjs_syntax.specs.declared.signs.PairSign.{PairSign}
use Rattle.sjs_syntax.specs.declared.signs.PairSign.TheVariants as pair
use Rattle.sjs_syntax.specs.declared.statements.Binding.{Binding}
use Rattle.sjs_syntax.specs.declared.statements.Named.{Named}
use Rattle.sjs_syntax.specs.Tree as tree
use Rattle.sjs_syntax.specs.Tree.{ExprTree, MaybeExpr, ExprTrees, MemberTrees, BodyTree}
use Rattle.sjs_syntax.specs.Tree.{PlaceTree, DeclaratorTrees, InitTree, StmtTree, StmtTrees}
use Rattle.sjs_grammar.specs.Kinds as k
use Rattle.sjs_grammar.specs.Kinds.{Kind, Lit, word_of, key_of, level, needs_value}
use Rattle.sjs_grammar.specs.Tokens.{tok, Toks, begins, broken, carries, goes_on, semi_next}
use Rattle.sjs_grammar.specs.Tokens.{comma_next, set_next, else_next, brace_next}
use Rattle.sjs_grammar.specs.Tokens.{brace_or_function_next}

-- a name that is declared, with the byte at which it stands
abbrev pub named : ℕ → List ℕ → Named
named a x = record { at = a; name = x }

-- the value that a word stands for
abbrev pub value_of : ℕ → Lit → ExprTree
value_of a k.True = tree.bool a true
value_of a k.False = tree.bool a false
value_of a k.Null = tree.null a
value_of a k.Undefined = tree.undefined a

-- what ends a statement: a semicolon wherever it is the next token; else nothing, before a closing
-- brace, before the end, and before a token behind a line break
pub data EndsAt : Toks → Toks → Type 0 where
  semi : {a : ℕ} {x : Bool} {r : Toks} → EndsAt (tok a x k.Semi ∷ r) r
  brace : {a : ℕ} {x : Bool} {r : Toks} →
      EndsAt (tok a x k.CloseBrace ∷ r) (tok a x k.CloseBrace ∷ r)
  end : {a : ℕ} {x : Bool} {r : Toks} → EndsAt (tok a x k.End ∷ r) (tok a x k.End ∷ r)
  line : {a : ℕ} {t : Kind} {r : Toks} →
      semi_next (tok a true t ∷ r) ≡ false → EndsAt (tok a true t ∷ r) (tok a true t ∷ r)

-- one name or more, with commas between them
pub data NamesAt : Toks → List Named → Toks → Type 0 where
  last_name : {a : ℕ} {x : Bool} {n : List ℕ} {r : Toks} →
      NamesAt (tok a x (k.Name n) ∷ r) (named a n ∷ []) r
  more_names : {a b : ℕ} {x y : Bool} {n : List ℕ} {ns : List Named} {ts r : Toks} →
      NamesAt ts ns r → NamesAt (tok a x (k.Name n) ∷ tok b y k.Comma ∷ ts) (named a n ∷ ns) r

-- parameters behind `(`, with the `)`
pub data ParamsAt : Toks → List Named → Toks → Type 0 where
  no_params : {a : ℕ} {x : Bool} {r : Toks} → ParamsAt (tok a x k.CloseRound ∷ r) [] r
  params : {a : ℕ} {x : Bool} {ns : List Named} {ts r : Toks} →
      NamesAt ts ns (tok a x k.CloseRound ∷ r) → ParamsAt ts ns r

mutual
  -- statements up to a closing brace or the end; the truth says whether a loop of the same
  -- function is round them
  pub data StmtsAt : Bool → Toks → StmtTrees → Toks → Type 0 where
    stmts_to_brace : {l : Bool} {a : ℕ} {x : Bool} {r : Toks} →
        StmtsAt l (tok a x k.CloseBrace ∷ r) tree.no_stmts (tok a x k.CloseBrace ∷ r)
    stmts_to_end : {l : Bool} {a : ℕ} {x : Bool} {r : Toks} →
        StmtsAt l (tok a x k.End ∷ r) tree.no_stmts (tok a x k.End ∷ r)
    more_stmts : {l : Bool} {ts m r : Toks} {s : StmtTree} {ss : StmtTrees} →
        StmtAt l ts s m → StmtsAt l m ss r → StmtsAt l ts (tree.more_stmts s ss) r

  pub data StmtAt : Bool → Toks → StmtTree → Toks → Type 0 where
    block : {l : Bool} {a b : ℕ} {x y : Bool} {ts r : Toks} {ss : StmtTrees} →
        StmtsAt l ts ss (tok b y k.CloseBrace ∷ r) →
        StmtAt l (tok a x k.OpenBrace ∷ ts) (tree.block a ss) r
    empty : {l : Bool} {a : ℕ} {x : Bool} {r : Toks} →
        StmtAt l (tok a x k.Semi ∷ r) (tree.empty a) r
    declare : {l : Bool} {a : ℕ} {x : Bool} {d : Binding} {ts m r : Toks} {ds : DeclaratorTrees} →
        DeclsAt d ts ds m → EndsAt m r → StmtAt l (tok a x (k.Bind d) ∷ ts) (tree.declare a d ds) r
    named_function :
        {l : Bool} {a b : ℕ} {x y : Bool} {n : List ℕ} {ts r : Toks}
        {ns : List Named} {ss : StmtTrees} →
        CodeAt ts ns ss r →
        StmtAt l
        (tok a x k.Function ∷ tok b y (k.Name n) ∷ ts)
        (tree.named_function a (named b n) ns ss)
        r
    -- an `else` goes to the nearest `if`
    if_ :
        {l : Bool} {a b c : ℕ} {x y z : Bool} {ts m r : Toks} {e : ExprTree} {s : StmtTree} →
        ExprAt ts e (tok c z k.CloseRound ∷ m) → StmtAt l m s r → else_next r ≡ false →
        StmtAt l
        (tok a x k.If ∷ tok b y k.OpenRound ∷ ts)
        (tree.if_ a e s tree.no_stmt)
        r
    if_else :
        {l : Bool} {a b c d : ℕ} {x y z w : Bool} {ts m n r : Toks}
        {e : ExprTree} {s o : StmtTree} →
        ExprAt ts e (tok c z k.CloseRound ∷ m) → StmtAt l m s (tok d w k.Else ∷ n) →
        StmtAt l n o r →
        StmtAt l
        (tok a x k.If ∷ tok b y k.OpenRound ∷ ts)
        (tree.if_ a e s (tree.some_stmt o))
        r
    while_ :
        {l : Bool} {a b c : ℕ} {x y z : Bool} {ts m r : Toks} {e : ExprTree} {s : StmtTree} →
        ExprAt ts e (tok c z k.CloseRound ∷ m) → StmtAt true m s r →
        StmtAt l (tok a x k.While ∷ tok b y k.OpenRound ∷ ts) (tree.while_ a e s) r
    do_while :
        {l : Bool} {a b c d : ℕ} {x y z w : Bool} {ts m n r : Toks} {s : StmtTree} {e : ExprTree} →
        StmtAt true ts s (tok b y k.While ∷ tok c z k.OpenRound ∷ m) →
        ExprAt m e (tok d w k.CloseRound ∷ n) → EndsAt n r →
        StmtAt l (tok a x k.Do ∷ ts) (tree.do_while a s e) r
    for_ :
        {l : Bool} {a b : ℕ} {x y : Bool} {ts m n o r : Toks}
        {i : InitTree} {e f : MaybeExpr} {s : StmtTree} →
        InitAt ts i m → TestAt m e n → LastAt n f o → StmtAt true o s r →
        StmtAt l (tok a x k.For ∷ tok b y k.OpenRound ∷ ts) (tree.for_ a i e f s) r
    for_in :
        {l : Bool} {a b c d f g : ℕ} {x y z w u v : Bool} {q : Binding} {n : List ℕ} {ts m r : Toks}
        {e : ExprTree} {s : StmtTree} →
        ExprAt ts e (tok g v k.CloseRound ∷ m) → StmtAt true m s r →
        StmtAt l
        (tok a x k.For ∷ tok b y k.OpenRound ∷ tok c z (k.Bind q) ∷ tok d w (k.Name n)
        ∷ tok f u k.In ∷ ts)
        (tree.for_in a q (named d n) e s)
        r
    -- only in a loop of the same function
    break_ : {a : ℕ} {x : Bool} {ts r : Toks} →
        EndsAt ts r → StmtAt true (tok a x k.Break ∷ ts) (tree.break_ a) r
    continue_ : {a : ℕ} {x : Bool} {ts r : Toks} →
        EndsAt ts r → StmtAt true (tok a x k.Continue ∷ ts) (tree.continue_ a) r
    return_ : {l : Bool} {a : ℕ} {x : Bool} {ts r : Toks} →
        EndsAt ts r → StmtAt l (tok a x k.Return ∷ ts) (tree.return_ a tree.no_expr) r
    -- the value stands in the line of the `return`
    return_value : {l : Bool} {a : ℕ} {x : Bool} {ts m r : Toks} {e : ExprTree} →
        broken ts ≡ false → ExprAt ts e m → EndsAt m r →
        StmtAt l (tok a x k.Return ∷ ts) (tree.return_ a (tree.some_expr e)) r
    value : {l : Bool} {ts m r : Toks} {e : ExprTree} →
        brace_or_function_next ts ≡ false → ExprAt ts e m → EndsAt m r →
        StmtAt l ts (tree.value (begins ts) e) r

  -- declared names, with commas between them
  pub data DeclsAt : Binding → Toks → DeclaratorTrees → Toks → Type 0 where
    last_decl :
        {d : Binding} {a : ℕ} {x : Bool} {n : List ℕ} {ts r : Toks} {e : MaybeExpr} →
        GivenAt d ts e r → comma_next r ≡ false →
        DeclsAt d
        (tok a x (k.Name n) ∷ ts)
        (tree.more_declarators (named a n) e tree.no_declarators)
        r
    more_decls :
        {d : Binding} {a b : ℕ} {x y : Bool} {n : List ℕ} {ts m r : Toks}
        {e : MaybeExpr} {ds : DeclaratorTrees} →
        GivenAt d ts e (tok b y k.Comma ∷ m) → DeclsAt d m ds r →
        DeclsAt d (tok a x (k.Name n) ∷ ts) (tree.more_declarators (named a n) e ds) r

  -- the value that a declared name is given, which `const` needs
  pub data GivenAt : Binding → Toks → MaybeExpr → Toks → Type 0 where
    not_given : {d : Binding} {r : Toks} →
        needs_value d ≡ false → set_next r ≡ false → GivenAt d r tree.no_expr r
    given : {d : Binding} {a : ℕ} {x : Bool} {ts r : Toks} {e : ExprTree} →
        ExprAt ts e r → GivenAt d (tok a x (k.Assign assign.Set) ∷ ts) (tree.some_expr e) r

  -- what stands before the first semicolon of a `for`, with the semicolon
  pub data InitAt : Toks → InitTree → Toks → Type 0 where
    no_init : {a : ℕ} {x : Bool} {r : Toks} → InitAt (tok a x k.Semi ∷ r) tree.no_init r
    declare_init :
        {a b : ℕ} {x y : Bool} {d : Binding} {ts r : Toks} {ds : DeclaratorTrees} →
        DeclsAt d ts ds (tok b y k.Semi ∷ r) →
        InitAt (tok a x (k.Bind d) ∷ ts) (tree.declare_init d ds) r
    value_init : {a : ℕ} {x : Bool} {ts r : Toks} {e : ExprTree} →
        ExprAt ts e (tok a x k.Semi ∷ r) → InitAt ts (tree.value_init e) r

  -- what stands before the second semicolon of a `for`, with the semicolon
  pub data TestAt : Toks → MaybeExpr → Toks → Type 0 where
    no_test : {a : ℕ} {x : Bool} {r : Toks} → TestAt (tok a x k.Semi ∷ r) tree.no_expr r
    test : {a : ℕ} {x : Bool} {ts r : Toks} {e : ExprTree} →
        ExprAt ts e (tok a x k.Semi ∷ r) → TestAt ts (tree.some_expr e) r

  -- what stands before the closing bracket of a `for`, with the bracket
  pub data LastAt : Toks → MaybeExpr → Toks → Type 0 where
    no_last : {a : ℕ} {x : Bool} {r : Toks} → LastAt (tok a x k.CloseRound ∷ r) tree.no_expr r
    last : {a : ℕ} {x : Bool} {ts r : Toks} {e : ExprTree} →
        ExprAt ts e (tok a x k.CloseRound ∷ r) → LastAt ts (tree.some_expr e) r

  -- the parameters and the body of a function
  pub data CodeAt : Toks → List Named → StmtTrees → Toks → Type 0 where
    code :
        {a b c : ℕ} {x y z : Bool} {ts m r : Toks} {ns : List Named} {ss : StmtTrees} →
        ParamsAt ts ns (tok b y k.OpenBrace ∷ m) →
        StmtsAt false m ss (tok c z k.CloseBrace ∷ r) →
        CodeAt (tok a x k.OpenRound ∷ ts) ns ss r

  -- the body of an arrow: a brace begins a block
  pub data BodyAt : Toks → BodyTree → Toks → Type 0 where
    block_body : {a b : ℕ} {x y : Bool} {ts r : Toks} {ss : StmtTrees} →
        StmtsAt false ts ss (tok b y k.CloseBrace ∷ r) →
        BodyAt (tok a x k.OpenBrace ∷ ts) (tree.block_body ss) r
    value_body : {ts r : Toks} {e : ExprTree} →
        brace_next ts ≡ false → ExprAt ts e r → BodyAt ts (tree.value_body e) r

  -- an expression, as far as it can be read
  pub data ExprAt : Toks → ExprTree → Toks → Type 0 where
    arrow_name : {a b : ℕ} {x y : Bool} {n : List ℕ} {ts r : Toks} {f : BodyTree} →
        BodyAt ts f r →
        ExprAt (tok a x (k.Name n) ∷ tok b y k.Arrow ∷ ts) (tree.arrow a (named a n ∷ []) f) r
    arrow_round :
        {a b : ℕ} {x y : Bool} {ns : List Named} {ts m r : Toks} {f : BodyTree} →
        ParamsAt ts ns (tok b y k.Arrow ∷ m) → BodyAt m f r →
        ExprAt (tok a x k.OpenRound ∷ ts) (tree.arrow a ns f) r
    assigned :
        {a : ℕ} {x : Bool} {s : AssignSign} {ts m r : Toks} {p : PlaceTree} {e : ExprTree} →
        PlaceAt ts p (tok a x (k.Assign s) ∷ m) → ExprAt m e r →
        ExprAt ts (tree.assign (begins ts) s p e) r
    choose : {a b : ℕ} {x y : Bool} {ts m n r : Toks} {e f g : ExprTree} →
        LevelAt 6 ts e (tok a x k.Quest ∷ m) → ExprAt m f (tok b y k.Colon ∷ n) → ExprAt n g r →
        ExprAt ts (tree.choose (begins ts) e f g) r
    plain : {ts r : Toks} {e : ExprTree} → LevelAt 6 ts e r → goes_on r ≡ false → ExprAt ts e r

  -- operands with signs between them, from the left; level 6 has all signs, level 1 only `*`, `/`
  -- and `%`, and level 0 none
  pub data LevelAt : ℕ → Toks → ExprTree → Toks → Type 0 where
    operand : {ts r : Toks} {e : ExprTree} → UnAt ts e r → LevelAt zero ts e r
    tighter : {n : ℕ} {ts r : Toks} {e : ExprTree} → LevelAt n ts e r → LevelAt (suc n) ts e r
    pairs :
        {n a : ℕ} {x : Bool} {s : PairSign} {ts m r : Toks} {e f : ExprTree} →
        level s ≡ n → LevelAt (suc n) ts e (tok a x (k.Infix s) ∷ m) → LevelAt n m f r →
        LevelAt (suc n) ts (tree.pair (begins ts) s e f) r

  -- an operand, with the signs before and behind it
  pub data UnAt : Toks → ExprTree → Toks → Type 0 where
    not : {a : ℕ} {x : Bool} {ts r : Toks} {e : ExprTree} →
        UnAt ts e r → UnAt (tok a x k.Bang ∷ ts) (tree.one a one.Not e) r
    minus : {a : ℕ} {x : Bool} {ts r : Toks} {e : ExprTree} →
        UnAt ts e r → UnAt (tok a x (k.Infix pair.Sub) ∷ ts) (tree.one a one.Minus e) r
    plus : {a : ℕ} {x : Bool} {ts r : Toks} {e : ExprTree} →
        UnAt ts e r → UnAt (tok a x (k.Infix pair.Add) ∷ ts) (tree.one a one.Plus e) r
    typeof : {a : ℕ} {x : Bool} {ts r : Toks} {e : ExprTree} →
        UnAt ts e r → UnAt (tok a x k.TypeOf ∷ ts) (tree.one a one.TypeOf e) r
    step_before : {a : ℕ} {x up : Bool} {ts r : Toks} {p : PlaceTree} →
        PlaceAt ts p r → carries r ≡ false →
        UnAt (tok a x (k.Step up) ∷ ts) (tree.step a up true p) r
    -- in the line of its place
    step_behind : {a : ℕ} {up : Bool} {ts r : Toks} {p : PlaceTree} →
        PlaceAt ts p (tok a false (k.Step up) ∷ r) →
        UnAt ts (tree.step (begins ts) up false p) r
    alone : {ts r : Toks} {e : ExprTree} → CallAt ts e r → carries r ≡ false → UnAt ts e r

  -- what can be assigned to
  pub data PlaceAt : Toks → PlaceTree → Toks → Type 0 where
    name_place : {a : ℕ} {x : Bool} {n : List ℕ} {r : Toks} →
        PlaceAt (tok a x (k.Name n) ∷ r) (tree.name_place a n) r
    member_place :
        {a b : ℕ} {x y : Bool} {t : Kind} {w : List ℕ} {ts r : Toks} {e : ExprTree} →
        CallAt ts e (tok a x k.Dot ∷ tok b y t ∷ r) → word_of t ≡ Some w →
        PlaceAt ts (tree.member_place (begins ts) e w) r
    index_place : {a b : ℕ} {x y : Bool} {ts m r : Toks} {e f : ExprTree} →
        CallAt ts e (tok a x k.OpenSquare ∷ m) → ExprAt m f (tok b y k.CloseSquare ∷ r) →
        PlaceAt ts (tree.index_place (begins ts) e f) r

  -- an operand without signs, and any members, indexes and calls of it
  pub data CallAt : Toks → ExprTree → Toks → Type 0 where
    number : {a : ℕ} {x : Bool} {n : ℕ} {r : Toks} →
        CallAt (tok a x (k.Number n) ∷ r) (tree.number a (pos n)) r
    text : {a : ℕ} {x : Bool} {t : List ℕ} {r : Toks} →
        CallAt (tok a x (k.Text t) ∷ r) (tree.text a t) r
    word : {a : ℕ} {x : Bool} {lit : Lit} {r : Toks} →
        CallAt (tok a x (k.Value lit) ∷ r) (value_of a lit) r
    name : {a : ℕ} {x : Bool} {n : List ℕ} {r : Toks} →
        CallAt (tok a x (k.Name n) ∷ r) (tree.name a n) r
    round : {a b : ℕ} {x y : Bool} {ts r : Toks} {e : ExprTree} →
        ExprAt ts e (tok b y k.CloseRound ∷ r) →
        CallAt (tok a x k.OpenRound ∷ ts) (tree.round a e) r
    list : {a : ℕ} {x : Bool} {ts r : Toks} {es : ExprTrees} →
        ItemsAt ts es r → CallAt (tok a x k.OpenSquare ∷ ts) (tree.list a es) r
    object : {a : ℕ} {x : Bool} {ts r : Toks} {ms : MemberTrees} →
        MembersAt ts ms r → CallAt (tok a x k.OpenBrace ∷ ts) (tree.object a ms) r
    function : {a : ℕ} {x : Bool} {ts r : Toks} {ns : List Named} {ss : StmtTrees} →
        CodeAt ts ns ss r → CallAt (tok a x k.Function ∷ ts) (tree.function a None ns ss) r
    function_named :
        {a b : ℕ} {x y : Bool} {n : List ℕ} {ts r : Toks} {ns : List Named} {ss : StmtTrees} →
        CodeAt ts ns ss r →
        CallAt
        (tok a x k.Function ∷ tok b y (k.Name n) ∷ ts)
        (tree.function a (Some (named b n)) ns ss)
        r
    member :
        {a b : ℕ} {x y : Bool} {t : Kind} {w : List ℕ} {ts r : Toks} {e : ExprTree} →
        CallAt ts e (tok a x k.Dot ∷ tok b y t ∷ r) → word_of t ≡ Some w →
        CallAt ts (tree.member (begins ts) e w) r
    index : {a b : ℕ} {x y : Bool} {ts m r : Toks} {e f : ExprTree} →
        CallAt ts e (tok a x k.OpenSquare ∷ m) → ExprAt m f (tok b y k.CloseSquare ∷ r) →
        CallAt ts (tree.index (begins ts) e f) r
    call : {a : ℕ} {x : Bool} {ts m r : Toks} {e : ExprTree} {es : ExprTrees} →
        CallAt ts e (tok a x k.OpenRound ∷ m) → ArgsAt m es r →
        CallAt ts (tree.call (begins ts) e es) r

  -- the arguments of a call behind `(`, with the `)`
  pub data ArgsAt : Toks → ExprTrees → Toks → Type 0 where
    no_args : {a : ℕ} {x : Bool} {r : Toks} → ArgsAt (tok a x k.CloseRound ∷ r) tree.no_exprs r
    args : {ts r : Toks} {es : ExprTrees} → SomeArgsAt ts es r → ArgsAt ts es r

  -- one argument or more
  pub data SomeArgsAt : Toks → ExprTrees → Toks → Type 0 where
    last_arg : {a : ℕ} {x : Bool} {ts r : Toks} {e : ExprTree} →
        ExprAt ts e (tok a x k.CloseRound ∷ r) →
        SomeArgsAt ts (tree.more_exprs e tree.no_exprs) r
    more_args : {a : ℕ} {x : Bool} {ts m r : Toks} {e : ExprTree} {es : ExprTrees} →
        ExprAt ts e (tok a x k.Comma ∷ m) → SomeArgsAt m es r →
        SomeArgsAt ts (tree.more_exprs e es) r

  -- the elements of a list behind `[` or a comma, with the `]`
  pub data ItemsAt : Toks → ExprTrees → Toks → Type 0 where
    no_items : {a : ℕ} {x : Bool} {r : Toks} → ItemsAt (tok a x k.CloseSquare ∷ r) tree.no_exprs r
    last_item : {a : ℕ} {x : Bool} {ts r : Toks} {e : ExprTree} →
        ExprAt ts e (tok a x k.CloseSquare ∷ r) →
        ItemsAt ts (tree.more_exprs e tree.no_exprs) r
    more_items : {a : ℕ} {x : Bool} {ts m r : Toks} {e : ExprTree} {es : ExprTrees} →
        ExprAt ts e (tok a x k.Comma ∷ m) → ItemsAt m es r → ItemsAt ts (tree.more_exprs e es) r

  -- the members of an object behind `{` or a comma, with the `}`
  pub data MembersAt : Toks → MemberTrees → Toks → Type 0 where
    no_members : {a : ℕ} {x : Bool} {r : Toks} →
        MembersAt (tok a x k.CloseBrace ∷ r) tree.no_members r
    last_member :
        {a b c : ℕ} {x y z : Bool} {t : Kind} {w : List ℕ} {ts r : Toks} {e : ExprTree} →
        key_of t ≡ Some w → ExprAt ts e (tok c z k.CloseBrace ∷ r) →
        MembersAt
        (tok a x t ∷ tok b y k.Colon ∷ ts)
        (tree.more_members a w e tree.no_members)
        r
    more_members :
        {a b c : ℕ} {x y z : Bool} {t : Kind} {w : List ℕ} {ts m r : Toks}
        {e : ExprTree} {ms : MemberTrees} →
        key_of t ≡ Some w → ExprAt ts e (tok c z k.Comma ∷ m) → MembersAt m ms r →
        MembersAt (tok a x t ∷ tok b y k.Colon ∷ ts) (tree.more_members a w e ms) r

-- a whole script: its tokens, and the end of the text
abbrev pub Reads : Toks → StmtTrees → Type 0
Reads ts p = (a : ℕ) × (x : Bool) × StmtsAt false ts p (tok a x k.End ∷ [])
