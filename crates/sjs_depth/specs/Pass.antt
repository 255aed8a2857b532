-- One pass over the notes of a script, the newest first, with a list of how deep what is looked for
-- stands in what is still to come.
use Rattle.std.specs.Prelude.{ℕ, zero, List, [], ◌∷◌, ◌++◌, Option, Some, None}
use Rattle.sjs_table.specs.Notes as note
use Rattle.sjs_table.specs.Notes.{Note, Out}
use Rattle.sjs_depth.specs.Depth.{here, inside}

-- the place of a note that is a node
abbrev pub node_at : Note → Option ℕ
node_at (note.Number a n) = Some a
node_at (note.Text a t) = Some a
node_at (note.Truth a b) = Some a
node_at (note.Null a) = Some a
node_at (note.Undefined a) = Some a
node_at (note.Name a n) = Some a
node_at (note.Round a) = Some a
node_at (note.List_ a) = Some a
node_at (note.Object a) = Some a
node_at (note.Index a) = Some a
node_at (note.Call a) = Some a
node_at (note.Choose a) = Some a
node_at (note.Member a key) = Some a
node_at (note.Assign a s) = Some a
node_at (note.Pair a s) = Some a
node_at (note.One a s) = Some a
node_at (note.Step a up before) = Some a
node_at (note.Function a) = Some a
node_at (note.FunctionNamed a) = Some a
node_at (note.FunctionStmt a) = Some a
node_at (note.Arrow a) = Some a
node_at (note.ArrowBlock a) = Some a
node_at (note.Block a) = Some a
node_at (note.Empty a) = Some a
node_at (note.If a) = Some a
node_at (note.IfElse a) = Some a
node_at (note.While a) = Some a
node_at (note.DoWhile a) = Some a
node_at (note.For a) = Some a
node_at (note.Break a) = Some a
node_at (note.Continue a) = Some a
node_at (note.Return a) = Some a
node_at (note.ReturnValue a) = Some a
node_at (note.Value a) = Some a
node_at (note.Declare a d) = Some a
node_at (note.ForIn a d) = Some a
node_at n = None

-- the parts of a note that are still to come, each with how deep what is looked for stands in it
abbrev pub parts : Note → ℕ → List ℕ
parts (note.Round a) k = inside k ∷ []
parts (note.List_ a) k = inside k ∷ []
parts (note.Object a) k = inside k ∷ []
parts (note.Index a) k = inside k ∷ inside k ∷ []
parts (note.Call a) k = inside k ∷ inside k ∷ []
parts (note.Choose a) k = inside k ∷ inside k ∷ inside k ∷ []
parts (note.Member a key) k = inside k ∷ []
parts (note.Assign a s) k = inside k ∷ inside k ∷ []
parts (note.Pair a s) k = inside k ∷ inside k ∷ []
parts (note.One a s) k = inside k ∷ []
parts (note.Step a up before) k = inside k ∷ []
parts (note.Function a) k = inside k ∷ zero ∷ []
parts (note.FunctionNamed a) k = inside k ∷ zero ∷ zero ∷ []
parts (note.FunctionStmt a) k = inside k ∷ zero ∷ zero ∷ []
parts (note.Arrow a) k = inside k ∷ zero ∷ []
parts (note.ArrowBlock a) k = inside k ∷ zero ∷ []
parts note.Expr k = k ∷ k ∷ []
parts note.Member_ k = k ∷ zero ∷ k ∷ []
parts (note.Param n) k = k ∷ []
parts note.Bare k = zero ∷ k ∷ []
parts note.Given k = k ∷ zero ∷ k ∷ []
parts note.ValueInit k = k ∷ []
parts (note.DeclareInit d) k = k ∷ []
parts note.Present k = k ∷ []
parts note.Stmt k = k ∷ k ∷ []
parts (note.Block a) k = inside k ∷ []
parts (note.If a) k = inside k ∷ inside k ∷ []
parts (note.IfElse a) k = inside k ∷ inside k ∷ inside k ∷ []
parts (note.While a) k = inside k ∷ inside k ∷ []
parts (note.DoWhile a) k = inside k ∷ inside k ∷ []
parts (note.For a) k = inside k ∷ inside k ∷ inside k ∷ inside k ∷ []
parts (note.ReturnValue a) k = inside k ∷ []
parts (note.Value a) k = inside k ∷ []
parts (note.Declare a d) k = inside k ∷ []
parts (note.ForIn a d) k = inside k ∷ inside k ∷ zero ∷ []
parts n k = []

-- the place of a note, where it is what is looked for
abbrev pub found : Option ℕ → ℕ → List ℕ
found None k = []
found (Some a) k = here k a

-- the places that are looked for, in what was put out
abbrev pub pass : Out → List ℕ → List ℕ
pass [] ks = []
pass (n ∷ o) [] = []
pass (n ∷ o) (k ∷ ks) = found (node_at n) k ++ pass o (parts n k ++ ks)
