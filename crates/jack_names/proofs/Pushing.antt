-- What parts leave when one comes last, and when several are put together.
use Rattle.std.proofs.Common.{◌≡◌, ℕ, ◌+◌, ◌≤◌, List, [], ◌∷◌, ◌++◌, Option, Some, None, length, take, drop, reverse, refl, sym, ap, ◌∙◌, subst, append_assoc, arith}
use Rattle.std.proofs.lemmas.List.{reverse-append, reverse-reverse, length-reverse, length-append}
use Rattle.std.proofs.Math.Seq.{take-append_seam, drop-append_seam}
use Rattle.jack_meaning.specs.Text as meaning
use Rattle.jack_core.specs.declared.tree.Part.{Part}
use Rattle.jack_core.specs.declared.tree.Part.TheVariants as part
use Rattle.jack_core.specs.declared.tree.Expression.{Expression}
use Rattle.jack_core.specs.Heights.{takes, height}
use Rattle.jack_core.specs.Reading.{make_expression, put, build_expressions, operand, arguments_of, the_expression}
use Rattle.jack_core.proofs.Postfix.{built_more, height_more, height_first, put_length, spells}
use Rattle.jack_tree.specs.declared.tree.Name.{Name}
use Rattle.jack_names.specs.Inner.Scopes.{Scope, callee}
use Rattle.jack_names.specs.Made.{with_variable, one}
use Rattle.jack_names.specs.Inner.Meant.{called_number, with_object, invocation, expression_list}
use Rattle.jack_names.specs.Inner.Pushed.{Leaves, Adds, AddsAll, Turns, Joins, Puts, object_by, object_meant}
use Rattle.jack_names.specs.declared.scope.Declared.{Declared}

pub puts : (p : Part) (old new : List Part) → new ≡ old ++ p ∷ [] → Puts p old new
puts p old new is es le s = record {
  built_is = ap (build_expressions []) is ∙ built_more [] old (p ∷ []) ∙ ap (put p) s.built_is;
  height_is =
      ap (height 0) is ∙ height_more 0 (length es) old (p ∷ []) s.height_is ∙ height_first (length es) p [] le
      ∙ ap Some (sym (put_length p es le));
}

-- no parts, and those that are added to none
nothing : (ps : List Part) → ps ≡ [] → Leaves [] ps
nothing ps is = record { built_is = ap (build_expressions []) is; height_is = ap (height 0) is }

pub alone : (e : meaning.Expression) (old new : List Part) → old ≡ [] → Adds e old new → Leaves (e ∷ []) new
alone e old new is adds = adds [] (nothing old is)

pub means : (e : meaning.Expression) (ps : List Part) → Leaves (e ∷ []) ps → operand 0 (build_expressions [] ps) ≡ e
means e ps s = ap (operand 0) s.built_is

-- a part alone that has no operands
pub one_part : (p : Part) → takes p ≡ 0 → Leaves (make_expression p [] ∷ []) (p ∷ [])
one_part p none =
    let is : put p [] ≡ make_expression p [] ∷ [] = ap (λ k. make_expression p (reverse (take k [])) ∷ drop k []) none in
    subst (λ xs. Leaves xs (p ∷ [])) is (puts p [] (p ∷ []) refl [] (omega (arith, none)) (nothing [] refl))

-- a call of one argument
pub called_one : (a : Expression) (g : ℕ) (new : List Part) → Puts (part.Call 1 g) a.parts new → Leaves (meaning.Call g (one (the_expression a)) ∷ []) new
called_one a g new p = p (the_expression a ∷ []) (omega arith) (record { built_is = spells [] a; height_is = a.one })

-- one turn after another, and another way to say a turn
pub turned : (f g h : meaning.Expression → meaning.Expression) (old middle new : List Part) → ((e : meaning.Expression) → g (f e) ≡ h e) → Turns f old middle → Turns g middle new → Turns h old new
turned f g h old middle new same first next e es s = subst (λ x. Leaves (x ∷ es) new) (same e) (next (f e) es (first e es s))

pub turned_as : (f h : meaning.Expression → meaning.Expression) (old new : List Part) → ((e : meaning.Expression) → f e ≡ h e) → Turns f old new → Turns h old new
turned_as f h old new same turns e es s = subst (λ x. Leaves (x ∷ es) new) (same e) (turns e es s)

pub added_as : (a b : meaning.Expression) (old new : List Part) → a ≡ b → Adds a old new → Adds b old new
added_as a b old new same adds es s = subst (λ x. Leaves (x ∷ es) new) same (adds es s)

-- a term, and an operator after it
pub joined : (f : meaning.Expression → meaning.Expression → meaning.Expression) (b : meaning.Expression) (old middle new : List Part) → Adds b old middle → Joins f middle new → Turns (λ a. f a b) old new
joined f b old middle new adds joins a es s = joins a b es (adds (a ∷ es) s)

pub added_turned : (e : meaning.Expression) (f : meaning.Expression → meaning.Expression) (old middle new : List Part) → Adds e old middle → Turns f middle new → Adds (f e) old new
added_turned e f old middle new adds turns es s = turns e es (adds es s)

-- a part of one operand, and of two
pub turns : (p : Part) (f : meaning.Expression → meaning.Expression) (old new : List Part) → takes p ≡ 1 → ((e : meaning.Expression) → make_expression p (e ∷ []) ≡ f e) → Puts p old new → Turns f old new
turns p f old new one same puts e es s =
    let is : put p (e ∷ es) ≡ f e ∷ es = ap (λ k. make_expression p (reverse (take k (e ∷ es))) ∷ drop k (e ∷ es)) one ∙ ap (λ x. x ∷ es) (same e) in
    subst (λ xs. Leaves xs new) is (puts (e ∷ es) (omega (arith, one)) s)

pub joins : (p : Part) (f : meaning.Expression → meaning.Expression → meaning.Expression) (old new : List Part) → takes p ≡ 2 → ((a b : meaning.Expression) → make_expression p (a ∷ b ∷ []) ≡ f a b) → Puts p old new → Joins f old new
joins p f old new two same puts a b es s =
    let is : put p (b ∷ a ∷ es) ≡ f a b ∷ es = ap (λ k. make_expression p (reverse (take k (b ∷ a ∷ es))) ∷ drop k (b ∷ a ∷ es)) two ∙ ap (λ x. x ∷ es) (same a b) in
    subst (λ xs. Leaves xs new) is (puts (b ∷ a ∷ es) (omega (arith, two)) s)

-- several expressions, and one more
reverse_more : (all : List meaning.Expression) (e : meaning.Expression) (es : List meaning.Expression) → reverse (all ++ e ∷ []) ++ es ≡ e ∷ (reverse all ++ es)
reverse_more all e es = ap (λ xs. xs ++ es) (reverse-append all (e ∷ []))

pub added_more : (all : List meaning.Expression) (e : meaning.Expression) (more : List meaning.Expression) (old middle new : List Part) → more ≡ all ++ e ∷ [] → AddsAll all old middle → Adds e middle new → AddsAll more old new
added_more all e more old middle new is first next es s =
    subst (λ xs. Leaves xs new) (sym (ap (λ xs. reverse xs ++ es) is ∙ reverse_more all e es)) (next (reverse all ++ es) (first es s))

-- a call takes all its arguments
put_call : (g n : ℕ) (all es : List meaning.Expression) → n ≡ length (reverse all) → put (part.Call n g) (reverse all ++ es) ≡ meaning.Call g (arguments_of all) ∷ es
put_call g n all es is =
    ap (λ k. put (part.Call k g) (reverse all ++ es)) is
    ∙ ap (λ xs. meaning.Call g (arguments_of (reverse xs)) ∷ drop (length (reverse all)) (reverse all ++ es)) (take-append_seam (reverse all) es)
    ∙ ap (λ xs. meaning.Call g (arguments_of (reverse (reverse all))) ∷ xs) (drop-append_seam (reverse all) es)
    ∙ ap (λ xs. meaning.Call g (arguments_of xs) ∷ es) (reverse-reverse all)

listed_is : (es : List meaning.Expression) → expression_list es meaning.NoMore ≡ arguments_of es
listed_is [] = refl
listed_is (e ∷ es) = ap (λ xs. meaning.More e xs) (listed_is es)

by_variable : (v : Option Declared) (es : List meaning.Expression) → with_variable v (arguments_of es) ≡ arguments_of (object_by v ++ es)
by_variable None es = refl
by_variable (Some v) es = refl

by_object : (s : Scope) (o : Option Name) (es : List meaning.Expression) → with_object s o (arguments_of es) ≡ arguments_of (object_meant s o ++ es)
by_object s None es = refl
by_object s (Some x) es = by_variable (s.variable x.text) es

invoked_is : (s : Scope) (o : Option Name) (f : Name) (args : List meaning.Expression) → invocation s o f (expression_list args meaning.NoMore) ≡ meaning.Call (called_number s f.text (callee s o)) (arguments_of (object_meant s o ++ args))
invoked_is s o f args = ap (λ xs. meaning.Call (called_number s f.text (callee s o)) xs) (ap (with_object s o) (listed_is args) ∙ by_object s o args)

in_order : (first next es : List meaning.Expression) → reverse next ++ (reverse first ++ es) ≡ reverse (first ++ next) ++ es
in_order first next es = sym (append_assoc (reverse next) (reverse first) es) ∙ ap (λ xs. xs ++ es) (sym (reverse-append first next))

-- the object of a call, its arguments, and the call
pub called : (s : Scope) (o : Option Name) (f : Name) (args : List meaning.Expression) (g n : ℕ) (old middle full new : List Part)
    → AddsAll (object_meant s o) old middle → AddsAll args middle full → g ≡ called_number s f.text (callee s o) → n ≡ length (object_meant s o) + length args
    → Puts (part.Call n g) full new → Adds (invocation s o f (expression_list args meaning.NoMore)) old new
called s o f args g n old middle full new first next number count last es h =
    let all = object_meant s o ++ args in
    let many : n ≡ length (reverse all) = count ∙ sym (length-append (object_meant s o) args) ∙ sym (length-reverse all) in
    let enough : n ≤ length (reverse all ++ es) = omega (arith, many, length-append (reverse all) es) in
    let here : Leaves (reverse all ++ es) full = subst (λ xs. Leaves xs full) (in_order (object_meant s o) args es) (next (reverse (object_meant s o) ++ es) (first es h)) in
    let is : meaning.Call g (arguments_of all) ≡ invocation s o f (expression_list args meaning.NoMore) = ap (λ k. meaning.Call k (arguments_of all)) number ∙ sym (invoked_is s o f args) in
    subst (λ xs. Leaves xs new) (put_call g n all es many ∙ ap (λ e. e ∷ es) is) (last (reverse all ++ es) enough here)
