-- A text spells at most one program: what is written is given by its tree.
use Rattle.std.proofs.Common.{◌≡◌, ℕ, Bool, true, false, List, [], ◌∷◌, Option, Some, None, map, refl, sym, ap, ◌∙◌}
use Rattle.grammar.specs.Rules.{Skip, Leaf, Pair, Left, Right, More}
use Rattle.grammar.specs.declared.Fault.{Fault}
use Rattle.grammar.proofs.Wholes as wholes
use Rattle.grammar.proofs.Wholes.{one_tree}
use Rattle.vm_tree.specs.declared.command.Command.{Command}
use Rattle.vm_tree.specs.declared.command.Command.TheVariants as command
use Rattle.vm_tree.specs.declared.command.Line.{Line}
use Rattle.vm_tree.specs.declared.program.Function.{Function}
use Rattle.vm_tree.specs.declared.program.File.{File}
use Rattle.vm_parser.specs.Tokens.{tokens_of, finish}
use Rattle.vm_parser.specs.Grammar.{Operation', Segment', Name', Number, vm, whole, greatest}
use Rattle.vm_parser.specs.Trees.{VmTree, command_tree, lines_tree, read_line, commands, WrittenFunction, functions_tree, function_of, Opening, opening_tree, opening_of, WrittenFile, file_tree, file_of, Spells, Refuses}

-- the command of a tree
abbrev pub command_in : VmTree → Command
command_in (Left (Leaf (Operation' o))) = command.Operate o
command_in (Right (Left (Pair Skip (Pair (Leaf (Segment' g)) (Leaf (Number i)))))) = command.Push g i
command_in (Right (Right (Left (Pair Skip (Pair (Leaf (Segment' g)) (Leaf (Number i))))))) = command.Pop g i
command_in (Right (Right (Right (Left (Pair Skip (Leaf (Name' l))))))) = command.Label l
command_in (Right (Right (Right (Right (Left (Pair Skip (Leaf (Name' l)))))))) = command.Goto l
command_in (Right (Right (Right (Right (Right (Left (Pair Skip (Leaf (Name' l))))))))) = command.IfGoto l
command_in (Right (Right (Right (Right (Right (Right (Left (Pair Skip (Pair (Leaf (Name' f)) (Leaf (Number n))))))))))) = command.Call f n
command_in _ = command.Return

told : (c : Command) → command_in (command_tree c) ≡ c
told (command.Operate o) = refl
told (command.Push g i) = refl
told (command.Pop g i) = refl
told (command.Label l) = refl
told (command.Goto l) = refl
told (command.IfGoto l) = refl
told (command.Call f n) = refl
told command.Return = refl

-- the lines of a tree
abbrev pub lines_in : VmTree → List Line
lines_in (More (Left x) y) = lines_in y
lines_in (More (Right (Pair x z)) y) = read_line (command_in x) ∷ lines_in y
lines_in _ = []

lines_told : (ls : List (Option Command)) → lines_in (lines_tree ls) ≡ commands ls
lines_told [] = refl
lines_told (None ∷ ls) = lines_told ls
lines_told (Some c ∷ ls) = let h = told c in let rest = lines_told ls in λ i. read_line (h i) ∷ rest i

-- the functions of a tree
abbrev pub functions_in : VmTree → List Function
functions_in (More (Pair k (Pair (Leaf (Name' n)) (Pair (Leaf (Number m)) (Pair e body)))) y) = record { name = n; locals = m; lines = lines_in body } ∷ functions_in y
functions_in _ = []

functions_told : (fs : List WrittenFunction) → functions_in (functions_tree fs) ≡ map function_of fs
functions_told [] = refl
functions_told (f ∷ fs) = let h = lines_told f.lines in let rest = functions_told fs in λ i. record { name = f.name; locals = f.locals; lines = h i } ∷ rest i

abbrev pub opening_in : Bool → VmTree → List Line
opening_in true t = lines_in t
opening_in false t = []

opening_told : (bare : Bool) (o : Opening bare) → opening_in bare (opening_tree bare o) ≡ opening_of bare o
opening_told true o = lines_told o
opening_told false o = refl

abbrev pub file_in : Bool → List ℕ → VmTree → File
file_in bare name (Pair o (Pair fs e)) = record { name = name; opening = opening_in bare o; functions = functions_in fs }
file_in bare name _ = record { name = name; opening = []; functions = [] }

pub file_told : (bare : Bool) (name : List ℕ) (f : WrittenFile bare) → file_in bare name (file_tree bare f) ≡ file_of bare name f
file_told bare name f = let o = opening_told bare f.opening in let fs = functions_told f.functions in λ i. record { name = name; opening = o i; functions = fs i }

pub spelled_once : (bare : Bool) (name text : List ℕ) (p q : List File) → Spells bare name text p → Spells bare name text q → p ≡ q
spelled_once bare name text p q a b =
    let t = one_tree (vm (finish text)) (whole bare) greatest (tokens_of text) (file_tree bare a.0) (file_tree bare b.0) a.2 b.2 in
    let same = sym (file_told bare name a.0) ∙ ap (file_in bare name) t ∙ file_told bare name b.0 in
    a.1 ∙ ap (λ (f : File). f ∷ []) same ∙ sym b.1

pub not_both : (bare : Bool) (name text : List ℕ) (p : List File) (f : Fault) → Spells bare name text p → Refuses bare text f → ⊥
not_both bare name text p f a r = wholes.not_both (vm (finish text)) (whole bare) greatest (tokens_of text) (file_tree bare a.0) f a.2 r
