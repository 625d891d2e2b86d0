-- A command is known by its first word.
use Rattle.std.proofs.Common.{◌≡◌, ℕ, Bool, true, false, List, [], ◌∷◌, refl, sym, ap, ◌∙◌, inl, inr}
use Rattle.std.specs.Prelude.{◌||◌, ◌⊎◌}
use Rattle.scan_text.specs.declared.Place.{Place}
use Rattle.grammar.specs.declared.Fault.TheVariants.{Grammar}
use Rattle.grammar.specs.declared.ReadError.{ReadError}
use Rattle.grammar.specs.Reading.{Halt}
use Rattle.grammar.specs.Rules.{enters, here, next, Left, Right, Reads, left, Stops, neither}
use Rattle.grammar.proofs.Exits.{halt_left}
use Rattle.vm_tree.specs.declared.command.Segment.{Segment}
use Rattle.vm_parser.specs.declared.token.Role.{Role}
use Rattle.vm_parser.specs.declared.token.Role.TheVariants as role
use Rattle.vm_parser.specs.Tokens.{Word, ends_line}
use Rattle.vm_parser.specs.Grammar.{Said, Part, vm, greatest, same_word, operation_role, operation, push, pop, label, goto, if_goto, call, returns, command, line}
use Rattle.vm_parser.specs.Trees.{VmTree}
use Rattle.vm_parser.specs.Inner.Reading.{role_next, begins_command, begins_line}
use Rattle.grammar.proofs.Entered.{skip, halt_skip}

abbrev pub R : Place → Part → List Word → VmTree → List Word → Type 0
R end r ts x us = Reads Word ℕ (Unit {0}) Said (vm end) greatest r ts x greatest us

abbrev pub H : Place → Part → List Word → ReadError → Type 0
H end r ts e = Halt (Stops Word ℕ (Unit {0}) Said (vm end) greatest r ts) e

at_role : (p : Role → Bool) → p role.Plain ≡ false → (ts : List Word) → next (λ t. p t.role) ts ≡ p (role_next ts)
at_role p h [] = sym h
at_role p h (t ∷ ts) = refl

module _ (end : Place) (ts : List Word) where
  is : (r : Role) → role_next ts ≡ r → (p : Role → Bool) (b : Bool) → p role.Plain ≡ false → p r ≡ b → next (λ t. p t.role) ts ≡ b
  is r e p b plain h = at_role p plain ts ∙ ap p e ∙ h

  module _ {x : VmTree} {us : List Word} where
    pub push_read : role_next ts ≡ role.Push → R end push ts x us → R end command ts (Right (Left x)) us
    push_read e h = skip (is role.Push e operation_role false refl refl) refl (left (is role.Push e (same_word role.Push) true refl refl) h)

    pub pop_read : role_next ts ≡ role.Pop → R end pop ts x us → R end command ts (Right (Right (Left x))) us
    pop_read e h = skip (is role.Pop e operation_role false refl refl) refl (skip (is role.Pop e (same_word role.Push) false refl refl) refl (left (is role.Pop e (same_word role.Pop) true refl refl) h))

    pub label_read : role_next ts ≡ role.Label → R end label ts x us → R end command ts (Right (Right (Right (Left x)))) us
    label_read e h = skip (is role.Label e operation_role false refl refl) refl (skip (is role.Label e (same_word role.Push) false refl refl) refl (skip (is role.Label e (same_word role.Pop) false refl refl) refl (left (is role.Label e (same_word role.Label) true refl refl) h)))

    pub goto_read : role_next ts ≡ role.Goto → R end goto ts x us → R end command ts (Right (Right (Right (Right (Left x))))) us
    goto_read e h = skip (is role.Goto e operation_role false refl refl) refl (skip (is role.Goto e (same_word role.Push) false refl refl) refl (skip (is role.Goto e (same_word role.Pop) false refl refl) refl (skip (is role.Goto e (same_word role.Label) false refl refl) refl (left (is role.Goto e (same_word role.Goto) true refl refl) h))))

    pub if_goto_read : role_next ts ≡ role.IfGoto → R end if_goto ts x us → R end command ts (Right (Right (Right (Right (Right (Left x)))))) us
    if_goto_read e h = skip (is role.IfGoto e operation_role false refl refl) refl (skip (is role.IfGoto e (same_word role.Push) false refl refl) refl (skip (is role.IfGoto e (same_word role.Pop) false refl refl) refl (skip (is role.IfGoto e (same_word role.Label) false refl refl) refl (skip (is role.IfGoto e (same_word role.Goto) false refl refl) refl (left (is role.IfGoto e (same_word role.IfGoto) true refl refl) h)))))

    pub call_read : role_next ts ≡ role.Call → R end call ts x us → R end command ts (Right (Right (Right (Right (Right (Right (Left x))))))) us
    call_read e h = skip (is role.Call e operation_role false refl refl) refl (skip (is role.Call e (same_word role.Push) false refl refl) refl (skip (is role.Call e (same_word role.Pop) false refl refl) refl (skip (is role.Call e (same_word role.Label) false refl refl) refl (skip (is role.Call e (same_word role.Goto) false refl refl) refl (skip (is role.Call e (same_word role.IfGoto) false refl refl) refl (left (is role.Call e (same_word role.Call) true refl refl) h))))))

    pub return_read : role_next ts ≡ role.Return → R end returns ts x us → R end command ts (Right (Right (Right (Right (Right (Right (Right x))))))) us
    return_read e h = skip (is role.Return e operation_role false refl refl) refl (skip (is role.Return e (same_word role.Push) false refl refl) refl (skip (is role.Return e (same_word role.Pop) false refl refl) refl (skip (is role.Return e (same_word role.Label) false refl refl) refl (skip (is role.Return e (same_word role.Goto) false refl refl) refl (skip (is role.Return e (same_word role.IfGoto) false refl refl) refl (skip (is role.Return e (same_word role.Call) false refl refl) refl h))))))

  module _ {e' : ReadError} where
    pub push_halt : role_next ts ≡ role.Push → H end push ts e' → H end command ts e'
    push_halt e h = halt_skip (is role.Push e operation_role false refl refl) refl (halt_left (is role.Push e (same_word role.Push) true refl refl) h)

    pub pop_halt : role_next ts ≡ role.Pop → H end pop ts e' → H end command ts e'
    pop_halt e h = halt_skip (is role.Pop e operation_role false refl refl) refl (halt_skip (is role.Pop e (same_word role.Push) false refl refl) refl (halt_left (is role.Pop e (same_word role.Pop) true refl refl) h))

    pub label_halt : role_next ts ≡ role.Label → H end label ts e' → H end command ts e'
    label_halt e h = halt_skip (is role.Label e operation_role false refl refl) refl (halt_skip (is role.Label e (same_word role.Push) false refl refl) refl (halt_skip (is role.Label e (same_word role.Pop) false refl refl) refl (halt_left (is role.Label e (same_word role.Label) true refl refl) h)))

    pub goto_halt : role_next ts ≡ role.Goto → H end goto ts e' → H end command ts e'
    goto_halt e h = halt_skip (is role.Goto e operation_role false refl refl) refl (halt_skip (is role.Goto e (same_word role.Push) false refl refl) refl (halt_skip (is role.Goto e (same_word role.Pop) false refl refl) refl (halt_skip (is role.Goto e (same_word role.Label) false refl refl) refl (halt_left (is role.Goto e (same_word role.Goto) true refl refl) h))))

    pub if_goto_halt : role_next ts ≡ role.IfGoto → H end if_goto ts e' → H end command ts e'
    if_goto_halt e h = halt_skip (is role.IfGoto e operation_role false refl refl) refl (halt_skip (is role.IfGoto e (same_word role.Push) false refl refl) refl (halt_skip (is role.IfGoto e (same_word role.Pop) false refl refl) refl (halt_skip (is role.IfGoto e (same_word role.Label) false refl refl) refl (halt_skip (is role.IfGoto e (same_word role.Goto) false refl refl) refl (halt_left (is role.IfGoto e (same_word role.IfGoto) true refl refl) h)))))

    pub call_halt : role_next ts ≡ role.Call → H end call ts e' → H end command ts e'
    call_halt e h = halt_skip (is role.Call e operation_role false refl refl) refl (halt_skip (is role.Call e (same_word role.Push) false refl refl) refl (halt_skip (is role.Call e (same_word role.Pop) false refl refl) refl (halt_skip (is role.Call e (same_word role.Label) false refl refl) refl (halt_skip (is role.Call e (same_word role.Goto) false refl refl) refl (halt_skip (is role.Call e (same_word role.IfGoto) false refl refl) refl (halt_left (is role.Call e (same_word role.Call) true refl refl) h))))))

    pub return_halt : role_next ts ≡ role.Return → H end returns ts e' → H end command ts e'
    return_halt e h = halt_skip (is role.Return e operation_role false refl refl) refl (halt_skip (is role.Return e (same_word role.Push) false refl refl) refl (halt_skip (is role.Return e (same_word role.Pop) false refl refl) refl (halt_skip (is role.Return e (same_word role.Label) false refl refl) refl (halt_skip (is role.Return e (same_word role.Goto) false refl refl) refl (halt_skip (is role.Return e (same_word role.IfGoto) false refl refl) refl (halt_skip (is role.Return e (same_word role.Call) false refl refl) refl h))))))

-- an operation
pub operation_entered : (end : Place) (ts : List Word) → operation_role (role_next ts) ≡ true → enters (vm end) operation ts ≡ true
operation_entered end ts e = at_role operation_role refl ts ∙ e

-- the words of the other commands
abbrev others : Role → Bool
others r = same_word role.Push r || (same_word role.Pop r || (same_word role.Label r || (same_word role.Goto r || (same_word role.IfGoto r || (same_word role.Call r || same_word role.Return r)))))

no_operation : (r : Role) → begins_command r ≡ false → operation_role r ≡ false
no_operation role.Push e = absurd cc
no_operation role.Pop e = absurd cc
no_operation role.Label e = absurd cc
no_operation role.Goto e = absurd cc
no_operation role.IfGoto e = absurd cc
no_operation role.Call e = absurd cc
no_operation role.Function e = refl
no_operation role.Return e = absurd cc
no_operation (role.Operation o) e = absurd cc
no_operation (role.Segment g) e = refl
no_operation role.Plain e = refl

no_other : (r : Role) → begins_command r ≡ false → others r ≡ false
no_other role.Push e = absurd cc
no_other role.Pop e = absurd cc
no_other role.Label e = absurd cc
no_other role.Goto e = absurd cc
no_other role.IfGoto e = absurd cc
no_other role.Call e = absurd cc
no_other role.Function e = refl
no_other role.Return e = absurd cc
no_other (role.Operation o) e = absurd cc
no_other (role.Segment g) e = refl
no_other role.Plain e = refl

-- the words that begin no command
pub no_role : (r : Role) → (r ≡ role.Function) ⊎ (((g : Segment) × (r ≡ role.Segment g)) ⊎ (r ≡ role.Plain)) → begins_command r ≡ false
no_role r (inl e) = ap begins_command e
no_role r (inr (inl (g, e))) = ap begins_command e
no_role r (inr (inr e)) = ap begins_command e

-- no command begins
pub no_command : (end : Place) (ts : List Word) → begins_command (role_next ts) ≡ false → Stops Word ℕ (Unit {0}) Said (vm end) greatest command ts (Grammar (here (vm end) ts))
no_command end ts e = neither (at_role operation_role refl ts ∙ no_operation (role_next ts) e) (at_role others refl ts ∙ no_other (role_next ts) e)

-- the words that begin a command, as the rule has them
command_begins : (r : Role) → (operation_role r || others r) ≡ begins_command r
command_begins role.Push = refl
command_begins role.Pop = refl
command_begins role.Label = refl
command_begins role.Goto = refl
command_begins role.IfGoto = refl
command_begins role.Call = refl
command_begins role.Function = refl
command_begins role.Return = refl
command_begins (role.Operation o) = refl
command_begins (role.Segment g) = refl
command_begins role.Plain = refl

-- a line is entered at the tokens that begin one
pub line_enters : (end : Place) (ts : List Word) → enters (vm end) line ts ≡ next begins_line ts
line_enters end [] = refl
line_enters end (t ∷ ts) = ap (λ (b : Bool). ends_line t.kind || b) (command_begins t.role)
