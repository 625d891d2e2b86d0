-- A text has no more choices, and no more loops, than statements.
use Rattle.std.proofs.Common.{◌≤◌, ℕ, ◌+◌, List, [], ◌∷◌, ◌++◌, Option, Some, None, arith}
use Rattle.jack_meaning.specs.Text as meaning
use Rattle.jack_compiler.specs.Lines.{ifs_of, ifs_in, whiles_of, whiles_in}
use Rattle.jack_tree.specs.declared.tree.Statement as statements
use Rattle.jack_names.specs.Sizes.{size, row_size, other_size, sizes}
use Rattle.jack_names.specs.Inner.Scopes.{Scope}
use Rattle.jack_names.specs.Made.{assignment, let_by}
use Rattle.jack_names.specs.Inner.Meant.{exp_meant, statement_meant, block_meant, other_meant, statements_meant}
use Rattle.jack_names.specs.declared.scope.Slot.{Slot}
use Rattle.jack_names.specs.declared.scope.Slot.TheVariants as slot
use Rattle.jack_names.specs.declared.scope.Declared.{Declared}

-- as many choices and loops at most
pub record Within (t : meaning.Statement) (n : ℕ) : Type 0 where
  pub ifs : ifs_of t ≤ n
  pub whiles : whiles_of t ≤ n

pub record AllWithin (t : meaning.Text) (n : ℕ) : Type 0 where
  pub ifs : ifs_in t ≤ n
  pub whiles : whiles_in t ≤ n

assigned_within : (v : Slot) (n : ℕ) (e : meaning.Expression) → Within (assignment v n e) 1
assigned_within (slot.Argument k) n e = record { ifs = omega arith; whiles = omega arith }
assigned_within (slot.Local k) n e = record { ifs = omega arith; whiles = omega arith }
assigned_within (slot.Field k) n e = record { ifs = omega arith; whiles = omega arith }
assigned_within (slot.Static k) n e = record { ifs = omega arith; whiles = omega arith }

let_within : (o : Option Declared) (n : ℕ) (e : meaning.Expression) → Within (let_by o n e) 1
let_within None n e = record { ifs = omega arith; whiles = omega arith }
let_within (Some v) n e = assigned_within v.slot n e

mutual
  statement_within : (s : Scope) (n : ℕ) (t : statements.Statement) → Within (statement_meant s n t) (size t)
  statement_within s n (statements.Let at x None e) = let_within (s.variable x.text) n (exp_meant s e)
  statement_within s n (statements.Let at x (Some i) e) = record { ifs = omega arith; whiles = omega arith }
  statement_within s n (statements.If' at e m a b) =
      let p = block_within s (n + 1) _ a in
      let q = other_within s (n + 1 + row_size a) b in
      let pi = p.ifs in
      let pw = p.whiles in
      let qi = q.ifs in
      let qw = q.whiles in
      record { ifs = omega arith; whiles = omega arith }
  statement_within s n (statements.While' at e m a) =
      let p = block_within s (n + 1) _ a in
      let pi = p.ifs in
      let pw = p.whiles in
      record { ifs = omega arith; whiles = omega arith }
  statement_within s n (statements.Do at c) = record { ifs = omega arith; whiles = omega arith }
  statement_within s n (statements.Return at v) = record { ifs = omega arith; whiles = omega arith }

  block_within : (s : Scope) (n : ℕ) (m : _) (ts : statements.Row_of-Statement m) → AllWithin (block_meant s n ts) (row_size ts)
  block_within s n m statements.end_of-Statement = record { ifs = omega arith; whiles = omega arith }
  block_within s n m (statements.more_of-Statement t ts) =
      let p = statement_within s n t in
      let q = block_within s (n + size t) _ ts in
      let pi = p.ifs in
      let pw = p.whiles in
      let qi = q.ifs in
      let qw = q.whiles in
      record { ifs = omega arith; whiles = omega arith }

  other_within : (s : Scope) (n : ℕ) (b : statements.Held-Statement-If-3) → AllWithin (other_meant s n b) (other_size b)
  other_within s n statements.None' = record { ifs = omega arith; whiles = omega arith }
  other_within s n (statements.Some' m a) = block_within s n _ a

-- statements in order, and a text after them
pub text_within : (s : Scope) (n : ℕ) (ts : List statements.Statement) (more : List meaning.Statement) → AllWithin (meaning.text_of more) 0 → AllWithin (meaning.text_of (statements_meant s n ts ++ more)) (sizes ts)
text_within s n [] more h = h
text_within s n (t ∷ ts) more h =
    let p = statement_within s n t in
    let q = text_within s (n + size t) ts more h in
    let pi = p.ifs in
    let pw = p.whiles in
    let qi = q.ifs in
    let qw = q.whiles in
    record { ifs = omega arith; whiles = omega arith }
