-- A class that some text spells is within the limits.
use Rattle.std.proofs.Common.{◌≡◌, ◌≤◌, ℕ, List, [], ◌∷◌, map, length, refl, arith}
use Rattle.std.proofs.lemmas.List.{length-map}
use Rattle.grammar.specs.Rules.{NoMore, tree_of_list}
use Rattle.jack_tree.specs.declared.tree.Scope as scopes
use Rattle.jack_tree.specs.declared.tree.Scope.TheVariants as scope
use Rattle.jack_tree.specs.declared.tree.ClassVariables.{ClassVariables}
use Rattle.jack_tree.specs.declared.tree.Locals.{Locals}
use Rattle.jack_tree.specs.declared.tree.Subroutine.{Subroutine}
use Rattle.jack_tree.specs.declared.tree.Class.{Class}
use Rattle.jack_tree.specs.Seen.{the_class, the_locals, the_name, the_names, the_parameter, the_scope, the_subroutine, the_variables}
use Rattle.jack_tree.specs.Tokens.{Word}
use Rattle.jack_lexer.specs.Tokens.{finish}
use Rattle.jack_parser.specs.declared.counts.Counts.{Counts}
use Rattle.jack_parser.specs.Grammar.{jack, Part, Said}
use Rattle.jack_parser.specs.ClassTrees.{subroutine_tree, class_tree}
use Rattle.jack_parser.specs.Limits as limits
use Rattle.jack_parser.specs.Limits.{KeepsLimits, SubroutineKeeps, SubroutinesKeep}
use Rattle.jack_parser.specs.Spells.{Spells, whole_tree}
use Rattle.jack_parser.proofs.Spelt.{read_so}
use Rattle.jack_names.specs.Limits.{HasFew, AllHaveFew}
use Rattle.jack_names.specs.Symbols.{fields_in, fields_of, locals_of, statics_in, statics_of}
use Rattle.tower.specs.Read.{IsReadClass}
use Rattle.tower.specs.Spelled.{IsSpelled}
use Rattle.tower.proofs.Words.{words_read}
use Rattle.tower.proofs.Trees.{IsReadTree, whole_read}
use Rattle.tower.proofs.Literals.{subroutines_read}
use Rattle.tower.proofs.Weights.{weight, weighs, sizes_within, subroutines_within, thrice_within}

-- ---- what a class keeps, as what its numbers count

field_count : (s : scopes.Scope) (v : ClassVariables) → limits.fields_by (the_scope s) (limits.names_of (the_names v.names)) ≡ fields_in s v
field_count scope.Static v = refl
field_count scope.Field v = omega (arith, length-map v.names.more.items the_name)

static_count : (s : scopes.Scope) (v : ClassVariables) → limits.statics_by (the_scope s) (limits.names_of (the_names v.names)) ≡ statics_in s v
static_count scope.Static v = omega (arith, length-map v.names.more.items the_name)
static_count scope.Field v = refl

same_fields : (vs : List ClassVariables) → limits.total limits.fields_in (map the_variables vs) ≡ fields_of vs
same_fields [] = refl
same_fields (v ∷ vs) = omega (arith, field_count v.scope v, same_fields vs)

same_statics : (vs : List ClassVariables) → limits.total limits.statics_in (map the_variables vs) ≡ statics_of vs
same_statics [] = refl
same_statics (v ∷ vs) = omega (arith, static_count v.scope v, same_statics vs)

same_locals : (vs : List Locals) → limits.total (λ v. limits.names_of v.names) (map the_locals vs) ≡ locals_of vs
same_locals [] = refl
same_locals (v ∷ vs) = omega (arith, length-map v.names.more.items the_name, same_locals vs)

subroutine_few : (t : Subroutine) → weight (subroutine_tree t) ≤ 1048576 → SubroutineKeeps (the_subroutine t) → HasFew t
subroutine_few t w k =
    let size = sizes_within t.statements.items in
    record {
      parameters = omega (arith, length-map t.parameters.items the_parameter, k.parameters);
      locals = omega (arith, same_locals t.locals.items, k.locals);
      statements = omega (arith, size, w);
    }

each_few : (ts : List Subroutine) → weight (tree_of_list subroutine_tree ts NoMore) ≤ 1048576 → SubroutinesKeep (map the_subroutine ts) → AllHaveFew ts
each_few [] w k = tt
each_few (t ∷ ts) w k = (subroutine_few t (omega (arith, w)) k.0, each_few ts (omega (arith, w)) k.1)

class_read : (c : Class) → weight (class_tree c) ≤ 1048576 → IsReadTree (class_tree c) → KeepsLimits (the_class c) → IsReadClass c
class_read c w t k =
    let count = subroutines_within c.subroutines.items in
    record {
      within = record {
        fields = omega (arith, same_fields c.variables.items, k.fields);
        subroutines = each_few c.subroutines.items (omega (arith, w)) k.subroutines;
      };
      name = t.1.0;
      statics = omega (arith, same_statics c.variables.items, k.statics);
      few = omega (arith, count, w);
      subroutines = subroutines_read c.subroutines.items t.1.1.1.1.0;
    }

-- some text spells the tree of the class
abbrev IsReadSo : Class → Type 0
IsReadSo c = (text : List ℕ) × Spells text (whole_tree c)

read_by : (c : Class) → IsSpelled c → IsReadSo c
read_by c (text, h) = (text, read_so text c h)

tree_read : (c : Class) → KeepsLimits (the_class c) → IsReadSo c → IsReadClass c
tree_read c k (text, h) =
    let told = words_read text h.0 h.2 in
    let at = finish text in
    let w = weighs Word Counts Part Said (jack at) h.3 in
    let t = whole_read at told.1 h.3 in
    class_read c (omega (arith, w, told.0)) t.0 k

spelled_limits : (c : Class) → IsSpelled c → KeepsLimits (the_class c)
spelled_limits c (text, h) = h.limits

pub spelled_read : (c : Class) → IsSpelled c → IsReadClass c
spelled_read c h = tree_read c (spelled_limits c h) (read_by c h)

tree_few : (c : Class) → IsReadSo c → length c.subroutines.items ≤ 1048573
tree_few c (text, h) =
    let told = words_read text h.0 h.2 in
    let w = weighs Word Counts Part Said (jack (finish text)) h.3 in
    let n = thrice_within c.subroutines.items in
    omega (arith, w, told.0, n)

-- a class that is spelled has room for some subroutines more
pub spelled_few : (c : Class) → IsSpelled c → length c.subroutines.items ≤ 1048573
spelled_few c h = tree_few c (read_by c h)

subroutine_trees : (c : Class) → IsReadSo c → IsReadTree (tree_of_list subroutine_tree c.subroutines.items NoMore)
subroutine_trees c (text, h) =
    let told = words_read text h.0 h.2 in
    let t = whole_read (finish text) told.1 h.3 in
    t.0.1.1.1.1.0

-- the names, integers and strings of its subroutines
pub spelled_subroutines : (c : Class) → IsSpelled c → IsReadTree (tree_of_list subroutine_tree c.subroutines.items NoMore)
spelled_subroutines c h = subroutine_trees c (read_by c h)
