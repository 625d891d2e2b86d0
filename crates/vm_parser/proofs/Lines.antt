-- Lines and functions that are read one after another.
use Rattle.std.proofs.Common.{◌≡◌, ◌<◌, ℕ, zero, suc, subst, true, false, List, [], ◌∷◌, ◌++◌, Option, Some, None, length, map, refl, ap, arith}
use Rattle.std.specs.Prelude.{Bool, Result, Ok, Err}
use Rattle.std.proofs.lemmas.List.{length-map}
use denote.Bor.{Bor}
use Rattle.grammar.specs.declared.ReadError.{ReadError}
use Rattle.grammar.specs.Reading.{Halt}
use Rattle.grammar.specs.Rules.{Stops}
use Rattle.vm_tree.specs.declared.command.Line.{Line}
use Rattle.vm_parser.specs.Inner.Reading.{ReadsAs}
use Rattle.scan_text.specs.declared.Place.{Place}
use Rattle.grammar.specs.Rules.{repeat, enters, Skip, NoMore, More, Reads}
use Rattle.grammar.proofs.Continues.{Continues, go_on_as, done}
use Rattle.grammar.proofs.Lengths.{shorter, takes}
use Rattle.vm_tree.specs.declared.command.Command.{Command}
use Rattle.vm_parser.specs.declared.token.Token.{Token}
use Rattle.vm_parser.specs.Tokens.{Word, view}
use Rattle.vm_parser.specs.Grammar.{Said, Part, vm, line_end, lines, opening, greatest}
use Rattle.vm_parser.specs.Trees.{VmTree, commands, read_line, empty_lines, lines_tree, opening_tree, opening_of}

pub commands-push : (ls : List (Option Command)) (l : Option Command) → commands (ls ++ l ∷ []) ≡ commands ls ++ commands (l ∷ [])
commands-push [] l = refl
commands-push (None ∷ ls) l = commands-push ls l
commands-push (Some c ∷ ls) l = ap (λ ms. read_line c ∷ ms) (commands-push ls l)

-- fewer tokens are left after a rule that takes one
pub fewer : {end : Place} {s s' : ℕ} {r : Part} {x : VmTree} (cs ds : List Token) → Reads Word ℕ (Unit {0}) Said (vm end) s r (map view cs) x s' (map view ds) → takes r ≡ true → length ds < length cs
fewer {end = end} cs ds h t = let p = shorter Word ℕ (Unit {0}) Said (vm end) (λ n. refl) h t in omega (arith, p, length-map cs view, length-map ds view)

-- empty lines before others
abbrev pub more_lines : ℕ → VmTree → VmTree
more_lines zero t = t
more_lines (suc n) t = More Skip (more_lines n t)

more_last : (n : ℕ) (t : VmTree) → more_lines n (More Skip t) ≡ more_lines (suc n) t
more_last zero t = refl
more_last (suc n) t = ap (More Skip) (more_last n t)

more_none : (n : ℕ) → more_lines n NoMore ≡ empty_lines n
more_none zero = refl
more_none (suc n) = ap (More Skip) (more_none n)

module _ {end : Place} {ts us : List Word} (n : ℕ) (c : Continues Word ℕ (Unit {0}) Said (vm end) (repeat line_end) greatest ts (more_lines n) (repeat line_end) greatest us) where
  pub more_again : {vs : List Word} → enters (vm end) line_end us ≡ true → Reads Word ℕ (Unit {0}) Said (vm end) greatest line_end us Skip greatest vs → Continues Word ℕ (Unit {0}) Said (vm end) (repeat line_end) greatest ts (more_lines (suc n)) (repeat line_end) greatest vs
  more_again e r = go_on_as (more_lines (suc n)) (more_last n) c e r

  pub more_done : enters (vm end) line_end us ≡ false → Reads Word ℕ (Unit {0}) Said (vm end) greatest (repeat line_end) ts (empty_lines n) greatest us
  more_done e = subst (λ (t : VmTree). Reads Word ℕ (Unit {0}) Said (vm end) greatest (repeat line_end) ts t greatest us) (more_none n) (done c e)

-- what stands before the first function
pub opening_lines : (bare : Bool) (end : Place) (cs : List Token) (r : Result (List Line × Bor (List Token)) ReadError) → bare ≡ true → ReadsAs lines_tree commands end lines cs r → ReadsAs (opening_tree bare) (opening_of bare) end (opening bare) cs r
opening_lines true end cs r e h = opening_same end cs r h
  where
    opening_same : (end : Place) (cs : List Token) (r : Result (List Line × Bor (List Token)) ReadError) → ReadsAs lines_tree commands end lines cs r → ReadsAs (opening_tree true) (opening_of true) end (opening true) cs r
    opening_same end cs (Ok x) h = h
    opening_same end cs (Err e) h = h
opening_lines false end cs r e h = absurd cc

pub opening_none : (bare : Bool) (end : Place) (cs : List Token) (ls : List Line) (u : Unit {0}) (rest : Bor (List Token)) → bare ≡ false → ls ≡ [] → ReadsAs (opening_tree false) (λ (n : ℕ). tt) end (opening false) cs (Ok (u, rest)) → ReadsAs (opening_tree bare) (opening_of bare) end (opening bare) cs (Ok (ls, rest))
opening_none true end cs ls u rest e l h = absurd cc
opening_none false end cs ls u rest e l h = (h.0, l, h.2)

pub opening_halts : (bare : Bool) (end : Place) (ts : List Word) (e : ReadError) → bare ≡ false → Halt (Stops Word ℕ (Unit {0}) Said (vm end) greatest (opening false) ts) e → Halt (Stops Word ℕ (Unit {0}) Said (vm end) greatest (opening bare) ts) e
opening_halts true end ts e b h = absurd cc
opening_halts false end ts e b h = h
