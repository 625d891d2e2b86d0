-- The first word of an act says which rule is entered.
use Rattle.std.proofs.Common.{◌≡◌, Bool, true, false, List, [], ◌∷◌, refl, sym, ap, ◌∙◌}
use Rattle.scan_text.specs.declared.Place.{Place}
use Rattle.grammar.specs.declared.ReadError.{ReadError}
use Rattle.grammar.specs.Rules.{Tree, Left, Right, next, Reads, left, right, Stops}
use Rattle.grammar.specs.Reading.{Halt}
use Rattle.grammar.proofs.Exits.{halt_left, halt_right}
use Rattle.script_parser.specs.declared.nesting.Nesting.{Nesting}
use Rattle.script_parser.specs.declared.token.Role.{Role}
use Rattle.script_parser.specs.declared.token.Role.TheVariants as role
use Rattle.script_parser.specs.Tokens.{Word}
use Rattle.script_parser.specs.Grammar.{script, Part, Said, ScriptRule, next_role, role_is, passes, steps, load_or, file_or, compare_or, list_or, set_or, echo_or, act, load, output_file, compare_to, output_list, setting, echo, load_rom}

abbrev R : Place → Nesting → ScriptRule → List Word → Tree Said → Nesting → List Word → Type 0
R end s r ts x s' us = Reads Word Nesting Part Said (script end) s r ts x s' us

abbrev H : Place → Nesting → ScriptRule → List Word → ReadError → Type 0
H end s r ts e = Halt (Stops Word Nesting Part Said (script end) s r ts) e

-- a test of the next token is one of its role
pub by_role : (test : Role → Bool) (ts : List Word) (r : Role) (b : Bool) → test role.Plain ≡ false → r ≡ next_role ts → test r ≡ b → next (passes test) ts ≡ b
by_role test [] r b p e h = sym p ∙ ap test (sym e) ∙ h
by_role test (t ∷ ts) r b p e h = ap test (sym e) ∙ h

pub role_next : (test : Role → Bool) (ts : List Word) (b : Bool) → test role.Plain ≡ false → next (passes test) ts ≡ b → test (next_role ts) ≡ b
role_next test [] b p h = p ∙ h
role_next test (t ∷ ts) b p h = h

module _ {end : Place} {s : Nesting} {ts : List Word} where
  pub load_read : {s' : Nesting} {us : List Word} {x : Tree Said} → role.Load ≡ next_role ts → R end s load ts x s' us → R end s act ts (Right (Left x)) s' us
  load_read e p = right (by_role steps ts role.Load false refl e refl) (by_role load_or ts role.Load true refl e refl) (left (by_role (role_is role.Load) ts role.Load true refl e refl) p)

  pub load_halts : {e' : ReadError} → role.Load ≡ next_role ts → H end s load ts e' → H end s act ts e'
  load_halts e p = halt_right (by_role steps ts role.Load false refl e refl) (by_role load_or ts role.Load true refl e refl) (halt_left (by_role (role_is role.Load) ts role.Load true refl e refl) p)

  pub output_file_read : {s' : Nesting} {us : List Word} {x : Tree Said} → role.OutputFile ≡ next_role ts → R end s output_file ts x s' us → R end s act ts (Right (Right (Left x))) s' us
  output_file_read e p = right (by_role steps ts role.OutputFile false refl e refl) (by_role load_or ts role.OutputFile true refl e refl) (right (by_role (role_is role.Load) ts role.OutputFile false refl e refl) (by_role file_or ts role.OutputFile true refl e refl) (left (by_role (role_is role.OutputFile) ts role.OutputFile true refl e refl) p))

  pub output_file_halts : {e' : ReadError} → role.OutputFile ≡ next_role ts → H end s output_file ts e' → H end s act ts e'
  output_file_halts e p = halt_right (by_role steps ts role.OutputFile false refl e refl) (by_role load_or ts role.OutputFile true refl e refl) (halt_right (by_role (role_is role.Load) ts role.OutputFile false refl e refl) (by_role file_or ts role.OutputFile true refl e refl) (halt_left (by_role (role_is role.OutputFile) ts role.OutputFile true refl e refl) p))

  pub compare_to_read : {s' : Nesting} {us : List Word} {x : Tree Said} → role.CompareTo ≡ next_role ts → R end s compare_to ts x s' us → R end s act ts (Right (Right (Right (Left x)))) s' us
  compare_to_read e p = right (by_role steps ts role.CompareTo false refl e refl) (by_role load_or ts role.CompareTo true refl e refl) (right (by_role (role_is role.Load) ts role.CompareTo false refl e refl) (by_role file_or ts role.CompareTo true refl e refl) (right (by_role (role_is role.OutputFile) ts role.CompareTo false refl e refl) (by_role compare_or ts role.CompareTo true refl e refl) (left (by_role (role_is role.CompareTo) ts role.CompareTo true refl e refl) p)))

  pub compare_to_halts : {e' : ReadError} → role.CompareTo ≡ next_role ts → H end s compare_to ts e' → H end s act ts e'
  compare_to_halts e p = halt_right (by_role steps ts role.CompareTo false refl e refl) (by_role load_or ts role.CompareTo true refl e refl) (halt_right (by_role (role_is role.Load) ts role.CompareTo false refl e refl) (by_role file_or ts role.CompareTo true refl e refl) (halt_right (by_role (role_is role.OutputFile) ts role.CompareTo false refl e refl) (by_role compare_or ts role.CompareTo true refl e refl) (halt_left (by_role (role_is role.CompareTo) ts role.CompareTo true refl e refl) p)))

  pub output_list_read : {s' : Nesting} {us : List Word} {x : Tree Said} → role.OutputList ≡ next_role ts → R end s output_list ts x s' us → R end s act ts (Right (Right (Right (Right (Left x))))) s' us
  output_list_read e p = right (by_role steps ts role.OutputList false refl e refl) (by_role load_or ts role.OutputList true refl e refl) (right (by_role (role_is role.Load) ts role.OutputList false refl e refl) (by_role file_or ts role.OutputList true refl e refl) (right (by_role (role_is role.OutputFile) ts role.OutputList false refl e refl) (by_role compare_or ts role.OutputList true refl e refl) (right (by_role (role_is role.CompareTo) ts role.OutputList false refl e refl) (by_role list_or ts role.OutputList true refl e refl) (left (by_role (role_is role.OutputList) ts role.OutputList true refl e refl) p))))

  pub output_list_halts : {e' : ReadError} → role.OutputList ≡ next_role ts → H end s output_list ts e' → H end s act ts e'
  output_list_halts e p = halt_right (by_role steps ts role.OutputList false refl e refl) (by_role load_or ts role.OutputList true refl e refl) (halt_right (by_role (role_is role.Load) ts role.OutputList false refl e refl) (by_role file_or ts role.OutputList true refl e refl) (halt_right (by_role (role_is role.OutputFile) ts role.OutputList false refl e refl) (by_role compare_or ts role.OutputList true refl e refl) (halt_right (by_role (role_is role.CompareTo) ts role.OutputList false refl e refl) (by_role list_or ts role.OutputList true refl e refl) (halt_left (by_role (role_is role.OutputList) ts role.OutputList true refl e refl) p))))

  pub setting_read : {s' : Nesting} {us : List Word} {x : Tree Said} → role.Set ≡ next_role ts → R end s setting ts x s' us → R end s act ts (Right (Right (Right (Right (Right (Left x)))))) s' us
  setting_read e p = right (by_role steps ts role.Set false refl e refl) (by_role load_or ts role.Set true refl e refl) (right (by_role (role_is role.Load) ts role.Set false refl e refl) (by_role file_or ts role.Set true refl e refl) (right (by_role (role_is role.OutputFile) ts role.Set false refl e refl) (by_role compare_or ts role.Set true refl e refl) (right (by_role (role_is role.CompareTo) ts role.Set false refl e refl) (by_role list_or ts role.Set true refl e refl) (right (by_role (role_is role.OutputList) ts role.Set false refl e refl) (by_role set_or ts role.Set true refl e refl) (left (by_role (role_is role.Set) ts role.Set true refl e refl) p)))))

  pub setting_halts : {e' : ReadError} → role.Set ≡ next_role ts → H end s setting ts e' → H end s act ts e'
  setting_halts e p = halt_right (by_role steps ts role.Set false refl e refl) (by_role load_or ts role.Set true refl e refl) (halt_right (by_role (role_is role.Load) ts role.Set false refl e refl) (by_role file_or ts role.Set true refl e refl) (halt_right (by_role (role_is role.OutputFile) ts role.Set false refl e refl) (by_role compare_or ts role.Set true refl e refl) (halt_right (by_role (role_is role.CompareTo) ts role.Set false refl e refl) (by_role list_or ts role.Set true refl e refl) (halt_right (by_role (role_is role.OutputList) ts role.Set false refl e refl) (by_role set_or ts role.Set true refl e refl) (halt_left (by_role (role_is role.Set) ts role.Set true refl e refl) p)))))

  pub echo_read : {s' : Nesting} {us : List Word} {x : Tree Said} → role.Echo ≡ next_role ts → R end s echo ts x s' us → R end s act ts (Right (Right (Right (Right (Right (Right (Left x))))))) s' us
  echo_read e p = right (by_role steps ts role.Echo false refl e refl) (by_role load_or ts role.Echo true refl e refl) (right (by_role (role_is role.Load) ts role.Echo false refl e refl) (by_role file_or ts role.Echo true refl e refl) (right (by_role (role_is role.OutputFile) ts role.Echo false refl e refl) (by_role compare_or ts role.Echo true refl e refl) (right (by_role (role_is role.CompareTo) ts role.Echo false refl e refl) (by_role list_or ts role.Echo true refl e refl) (right (by_role (role_is role.OutputList) ts role.Echo false refl e refl) (by_role set_or ts role.Echo true refl e refl) (right (by_role (role_is role.Set) ts role.Echo false refl e refl) (by_role echo_or ts role.Echo true refl e refl) (left (by_role (role_is role.Echo) ts role.Echo true refl e refl) p))))))

  pub echo_halts : {e' : ReadError} → role.Echo ≡ next_role ts → H end s echo ts e' → H end s act ts e'
  echo_halts e p = halt_right (by_role steps ts role.Echo false refl e refl) (by_role load_or ts role.Echo true refl e refl) (halt_right (by_role (role_is role.Load) ts role.Echo false refl e refl) (by_role file_or ts role.Echo true refl e refl) (halt_right (by_role (role_is role.OutputFile) ts role.Echo false refl e refl) (by_role compare_or ts role.Echo true refl e refl) (halt_right (by_role (role_is role.CompareTo) ts role.Echo false refl e refl) (by_role list_or ts role.Echo true refl e refl) (halt_right (by_role (role_is role.OutputList) ts role.Echo false refl e refl) (by_role set_or ts role.Echo true refl e refl) (halt_right (by_role (role_is role.Set) ts role.Echo false refl e refl) (by_role echo_or ts role.Echo true refl e refl) (halt_left (by_role (role_is role.Echo) ts role.Echo true refl e refl) p))))))

  pub load_rom_read : {s' : Nesting} {us : List Word} {x : Tree Said} → role.Rom ≡ next_role ts → R end s load_rom ts x s' us → R end s act ts (Right (Right (Right (Right (Right (Right (Right x))))))) s' us
  load_rom_read e p = right (by_role steps ts role.Rom false refl e refl) (by_role load_or ts role.Rom true refl e refl) (right (by_role (role_is role.Load) ts role.Rom false refl e refl) (by_role file_or ts role.Rom true refl e refl) (right (by_role (role_is role.OutputFile) ts role.Rom false refl e refl) (by_role compare_or ts role.Rom true refl e refl) (right (by_role (role_is role.CompareTo) ts role.Rom false refl e refl) (by_role list_or ts role.Rom true refl e refl) (right (by_role (role_is role.OutputList) ts role.Rom false refl e refl) (by_role set_or ts role.Rom true refl e refl) (right (by_role (role_is role.Set) ts role.Rom false refl e refl) (by_role echo_or ts role.Rom true refl e refl) (right (by_role (role_is role.Echo) ts role.Rom false refl e refl) (by_role (role_is role.Rom) ts role.Rom true refl e refl) p))))))

  pub load_rom_halts : {e' : ReadError} → role.Rom ≡ next_role ts → H end s load_rom ts e' → H end s act ts e'
  load_rom_halts e p = halt_right (by_role steps ts role.Rom false refl e refl) (by_role load_or ts role.Rom true refl e refl) (halt_right (by_role (role_is role.Load) ts role.Rom false refl e refl) (by_role file_or ts role.Rom true refl e refl) (halt_right (by_role (role_is role.OutputFile) ts role.Rom false refl e refl) (by_role compare_or ts role.Rom true refl e refl) (halt_right (by_role (role_is role.CompareTo) ts role.Rom false refl e refl) (by_role list_or ts role.Rom true refl e refl) (halt_right (by_role (role_is role.OutputList) ts role.Rom false refl e refl) (by_role set_or ts role.Rom true refl e refl) (halt_right (by_role (role_is role.Set) ts role.Rom false refl e refl) (by_role echo_or ts role.Rom true refl e refl) (halt_right (by_role (role_is role.Echo) ts role.Rom false refl e refl) (by_role (role_is role.Rom) ts role.Rom true refl e refl) p))))))

-- no other role begins an act
pub no_act : (r : Role) → steps r ≡ false → (r ≡ role.Load → ⊥) → (r ≡ role.OutputFile → ⊥) → (r ≡ role.CompareTo → ⊥) → (r ≡ role.OutputList → ⊥) → (r ≡ role.Set → ⊥) → (r ≡ role.Echo → ⊥) → (r ≡ role.Rom → ⊥) → load_or r ≡ false
no_act role.Plain z a b c d e f g = refl
no_act role.Repeat z a b c d e f g = refl
no_act role.Eval z a b c d e f g = refl
no_act role.Tick z a b c d e f g = refl
no_act role.Tock z a b c d e f g = refl
no_act role.TickTock z a b c d e f g = refl
no_act role.Output z a b c d e f g = refl
no_act role.Load z a b c d e f g = absurd (a refl)
no_act role.OutputFile z a b c d e f g = absurd (b refl)
no_act role.CompareTo z a b c d e f g = absurd (c refl)
no_act role.OutputList z a b c d e f g = absurd (d refl)
no_act role.Set z a b c d e f g = absurd (e refl)
no_act role.Echo z a b c d e f g = absurd (f refl)
no_act role.Rom z a b c d e f g = absurd (g refl)
