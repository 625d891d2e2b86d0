-- Tokens that say what a class is spelled by are read as the class, where it keeps the limits.
use Rattle.std.proofs.Common.{◌≡◌, ℕ, ◌+◌, ◌<◌, ◌≤◌, true, false, List, [], ◌∷◌, ◌++◌, length, Option, Some, None, refl, sym, ap, subst, ◌∙◌, arith}
use Rattle.std.specs.List.{flat_map}
use Rattle.scan_text.specs.declared.Place.{Place}
use Rattle.grammar.specs.Rules.{seq, option, repeat, Tree, Leaf, NoMore, tree_of_list, next, both, left, right, passed, taken, ended, again, inside, at_end}
use Rattle.jack_tree.specs.declared.token.Keyword.{Keyword}
use Rattle.jack_tree.specs.declared.token.Keyword.TheVariants as keyword
use Rattle.jack_tree.specs.declared.token.Kind.{Kind}
use Rattle.jack_tree.specs.declared.token.Kind.TheVariants as kind
use Rattle.jack_tree.specs.Tokens.{Word}
use Rattle.jack_tree.specs.Syntax.{Name, ValueType, Int, Char, Boolean, Object, Names, Scope, Static, Field, ClassVariables, Locals, Parameter, Form, Constructor, Function, Method, Subroutine, Class}
use Rattle.jack_parser.specs.declared.counts.Counted.{Counted}
use Rattle.jack_parser.specs.declared.counts.Counted.TheVariants as counted
use Rattle.jack_parser.specs.declared.counts.Counts.{Counts}
use Rattle.jack_parser.specs.Grammar as grammar
use Rattle.jack_parser.specs.Grammar.{Said, Fixed, Placed, JackRule, statement, opens, fixed_word, placed_word, free, is_keyword, is_symbol, is_identifier, is_type, is_result, is_form, is_scope, type_by, type_said, so_many, one_more, fresh, count, statement_opens}
use Rattle.jack_parser.specs.Spelling.{Tokens, Says, type_tokens, result_tokens, names_tokens, scope_tokens, variables_tokens, locals_tokens, parameter_tokens, parameters_tokens, form_tokens, statements_tokens, subroutine_tokens, class_tokens}
use Rattle.jack_parser.specs.Limits.{total, names_of, statics_by, fields_by, statics_in, fields_in, StatementsKeepIn, SubroutineKeeps, SubroutinesKeep, KeepsLimits}
use Rattle.jack_parser.proofs.PlainTrees as trees
use Rattle.jack_parser.proofs.PlainTrees.{name_said, result_said, form_said, next_name_tree, names_tree, declared_tree, scoped, variables_tree, locals_tree, parameter_tree, next_parameter_tree, parameters_tree, statements_tree, parts_tree, subroutine_tree, class_tree, whole_tree}
use Rattle.jack_parser.proofs.Building.{Front, said_kind, kind_said, front_split, next_by, next_same, count_is, R, front_is, rest_is, word_as, behind_says, symbol_then, symbol_last, mark_next, word_next, word_last, name_value, placed_value, fixed_value}
use Rattle.jack_parser.proofs.BuiltExpressions.{sign_of}
use Rattle.jack_parser.proofs.BuiltStatements.{Done, first_of_all, statements_read}

-- the brace that closes a body
abbrev brace_at : Place → Said
brace_at at = Placed (kind.Symbol 125) [] at

-- ---- types, results, forms

type_front : (t : ValueType) (vs : Tokens) (ts us : List Word) → Front (type_tokens t ++ vs) ts us → Front (trees.type_said t ∷ vs) ts us
type_front Int vs ts us h = h
type_front Char vs ts us h = h
type_front Boolean vs ts us h = h
type_front (Object n) vs ts us h = h

type_is : (t : ValueType) (w : Word) → is_type (record w { kind = said_kind (trees.type_said t) }) ≡ true
type_is Int w = refl
type_is Char w = refl
type_is Boolean w = refl
type_is (Object n) w = refl

by_kind : (w : Word) (k : Kind) → w.kind ≡ k → type_by w.kind w.text w.place ≡ type_by k w.text w.place
by_kind w k h = ap (λ (j : Kind). type_by j w.text w.place) h

type_value : (t : ValueType) (w : Word) → Says w (trees.type_said t) → type_said w ≡ trees.type_said t
type_value Int w h = by_kind w (kind.Keyword keyword.Int) h
type_value Char w h = by_kind w (kind.Keyword keyword.Char) h
type_value Boolean w h = by_kind w (kind.Keyword keyword.Boolean) h
type_value (Object n) w h = by_kind w kind.Identifier h.0 ∙ name_value w n h

result_front : (t : Option ValueType) (vs : Tokens) (ts us : List Word) → Front (result_tokens t ++ vs) ts us → Front (result_said t ∷ vs) ts us
result_front None vs ts us h = h
result_front (Some t) vs ts us h = type_front t vs ts us h

some_result : (t : ValueType) (w : Word) → is_result (record w { kind = said_kind (trees.type_said t) }) ≡ true
some_result Int w = refl
some_result Char w = refl
some_result Boolean w = refl
some_result (Object n) w = refl

result_is : (t : Option ValueType) (w : Word) → is_result (record w { kind = said_kind (result_said t) }) ≡ true
result_is None w = refl
result_is (Some t) w = some_result t w

result_value : (t : Option ValueType) (w : Word) → Says w (result_said t) → type_said w ≡ result_said t
result_value None w h = by_kind w (kind.Keyword keyword.Void) h
result_value (Some t) w h = type_value t w h

form_front : (f : Form) (vs : Tokens) (ts us : List Word) → Front (form_tokens f ++ vs) ts us → Front (form_said f ∷ vs) ts us
form_front Constructor vs ts us h = h
form_front Function vs ts us h = h
form_front Method vs ts us h = h

form_is : (f : Form) (w : Word) → is_form (record w { kind = said_kind (form_said f) }) ≡ true
form_is Constructor w = refl
form_is Function w = refl
form_is Method w = refl

form_value : (f : Form) (w : Word) → Says w (form_said f) → fixed_word w ≡ form_said f
form_value Constructor w h = fixed_value w _ h
form_value Function w h = fixed_value w _ h
form_value Method w h = fixed_value w _ h

-- The rule reads the tokens, and counts this many of the sort x, none of the sort y.
record Counting (end : Place) (x y : Counted) (s : Counts) (r : JackRule) (ts : List Word) (t : Tree Said) (us : List Word) (n m : ℕ) : Type 0 where
  after : Counts
  reads : R end s r ts t after us
  more : so_many x after ≡ so_many x s + n
  same : so_many y after ≡ so_many y s + m
  level : after.nesting ≡ s.nesting

nothing_more : (n : ℕ) → n ≡ n + 0
nothing_more n = omega arith

-- the text ends at this place
module _ (end : Place) where
  -- a name that is counted
  name_counted : (x : Counted) (n : Name) (s : Counts) (ts us : List Word) → so_many x s < 16384 → Front (name_said n ∷ []) ts us → R end s (grammar.counted_name x) ts (Leaf (name_said n)) (one_more x s) us
  name_counted x n s [] us k h = absurd h.told
  name_counted x n s (t ∷ ts) us k h =
      rest_is end s (one_more x s) _ (t ∷ ts) ts us _ h.told.1
      (word_as end is_identifier (λ c w. count x c w.place) grammar.named_word s (one_more x s) t ts (name_said n) (ap (λ (j : Kind). grammar.names j) (kind_said t (name_said n) h.told.0)) (count_is x s t.place k) (name_value t n h.told.0))

  -- Names of the sort x, which are not of the sort y.
  module _ (x y : Counted) (one : (s : Counts) → so_many x (one_more x s) ≡ so_many x s + 1) (stays : (s : Counts) → so_many y (one_more x s) ≡ so_many y s) (level : (s : Counts) → (one_more x s).nesting ≡ s.nesting) where
    abbrev C : Counts → JackRule → List Word → Tree Said → List Word → ℕ → Type 0
    C s r ts t us n = Counting end x y s r ts t us n 0

    more_counted : (ns : List Name) (s : Counts) (ts us : List Word) → so_many x s + length ns ≤ 16384 → next (is_symbol 44) us ≡ false → Front (flat_map (λ n. sign_of 44 ∷ name_said n ∷ []) ns) ts us → C s (repeat (grammar.next_name x)) ts (tree_of_list next_name_tree ns NoMore) us (length ns)
    more_counted [] s ts us k q h = record { after = s; reads = front_is end s s _ ts us us _ h.told (ended q); more = nothing_more (so_many x s); same = nothing_more (so_many y s); level = refl }
    more_counted (n ∷ ns) s ts us k q h =
        let p = front_split (sign_of 44 ∷ name_said n ∷ []) (flat_map (λ m. sign_of 44 ∷ name_said m ∷ []) ns) ts us h in
        let e = one s in
        let few : so_many x s < 16384 = omega (arith, k) in
        let left : so_many x (one_more x s) + length ns ≤ 16384 = omega (arith, k, e) in
        let c = more_counted ns (one_more x s) p.0 us left q p.2 in
        let m = c.more in
        let same = c.same in
        let t = stays s in
        record {
          after = c.after;
          reads = again (next_by (is_symbol 44) true _ _ ts us h (λ w. refl)) (symbol_then end 44 _ _ s (one_more x s) ts p.0 _ p.1 (λ l g. name_counted x n s l p.0 few g)) c.reads;
          more = omega (arith, m, e);
          same = omega (arith, same, t);
          level = c.level ∙ level s;
        }

    names_counted : (ns : Names) (s : Counts) (ts us : List Word) → so_many x s + names_of ns ≤ 16384 → next (is_symbol 44) us ≡ false → Front (names_tokens ns) ts us → C s (grammar.names_rule x) ts (names_tree ns) us (names_of ns)
    names_counted ns s ts us k q h =
        let p = front_split (name_said ns.first ∷ []) (flat_map (λ m. sign_of 44 ∷ name_said m ∷ []) ns.more) ts us h in
        let e = one s in
        let few : so_many x s < 16384 = omega (arith, k) in
        let left : so_many x (one_more x s) + length ns.more ≤ 16384 = omega (arith, k, e) in
        let c = more_counted ns.more (one_more x s) p.0 us left q p.2 in
        let m = c.more in
        let same = c.same in
        let t = stays s in
        record { after = c.after; reads = both (name_counted x ns.first s ts p.0 few p.1) c.reads; more = omega (arith, m, e); same = omega (arith, same, t); level = c.level ∙ level s }

    declared_counted : (key : Keyword) (t : ValueType) (ns : Names) (s : Counts) (ts us : List Word) → ((w : Word) → is_keyword key (record w { kind = kind.Keyword key }) ≡ true) → so_many x s + names_of ns ≤ 16384
        → Front (Fixed (kind.Keyword key) ∷ (type_tokens t ++ (names_tokens ns ++ sign_of 59 ∷ []))) ts us → C s (grammar.declaration key x) ts (declared_tree t ns) us (names_of ns)
    declared_counted key t ns s ts us e k h =
        let vs = names_tokens ns ++ sign_of 59 ∷ [] in
        let f = type_front t vs _ us (behind_says (Fixed (kind.Keyword key)) (type_tokens t ++ vs) ts us h) in
        let p = front_split (names_tokens ns) (sign_of 59 ∷ []) _ us (behind_says (trees.type_said t) vs _ us f) in
        let c = names_counted ns s _ p.0 k (next_by (is_symbol 44) false _ _ p.0 us p.2 (λ u. refl)) p.1 in
        record {
          after = c.after;
          reads = mark_next end (is_keyword key) (Fixed (kind.Keyword key)) _ (type_tokens t ++ vs) s c.after ts us _ e h
              (word_next end is_type type_said (trees.type_said t) _ vs s c.after _ us _ (type_is t) (type_value t) f (both c.reads (symbol_last end 59 c.after p.0 us p.2)));
          more = c.more;
          same = c.same;
          level = c.level;
        }

    -- a parameter, with what stands before it
    parameter_counted : (p : Parameter) (s : Counts) (ts us : List Word) → so_many x s < 16384 → Front (parameter_tokens p) ts us → R end s (seq grammar.type_rule (grammar.counted_name x)) ts (parameter_tree p) (one_more x s) us
    parameter_counted p s ts us k h =
        let f = type_front p.type (name_said p.name ∷ []) ts us h in
        word_next end is_type type_said (trees.type_said p.type) _ (name_said p.name ∷ []) s (one_more x s) ts us _ (type_is p.type) (type_value p.type) f (name_counted x p.name s _ us k (behind_says (trees.type_said p.type) (name_said p.name ∷ []) ts us f))

    abbrev next_tokens : Parameter → Tokens
    next_tokens p = sign_of 44 ∷ parameter_tokens p

    further_counted : (ps : List Parameter) (s : Counts) (ts us : List Word) → so_many x s + length ps ≤ 16384 → next (is_symbol 44) us ≡ false → Front (flat_map next_tokens ps) ts us
        → C s (repeat (seq (grammar.symbol_of 44) (seq grammar.type_rule (grammar.counted_name x)))) ts (tree_of_list next_parameter_tree ps NoMore) us (length ps)
    further_counted [] s ts us k q h = record { after = s; reads = front_is end s s _ ts us us _ h.told (ended q); more = nothing_more (so_many x s); same = nothing_more (so_many y s); level = refl }
    further_counted (a ∷ ps) s ts us k q h =
        let p = front_split (next_tokens a) (flat_map next_tokens ps) ts us h in
        let e = one s in
        let few : so_many x s < 16384 = omega (arith, k) in
        let left : so_many x (one_more x s) + length ps ≤ 16384 = omega (arith, k, e) in
        let c = further_counted ps (one_more x s) p.0 us left q p.2 in
        let m = c.more in
        let same = c.same in
        let t = stays s in
        record {
          after = c.after;
          reads = again (next_by (is_symbol 44) true _ _ ts us h (λ w. refl)) (symbol_then end 44 _ _ s (one_more x s) ts p.0 _ p.1 (λ l g. parameter_counted a s l p.0 few g)) c.reads;
          more = omega (arith, m, e);
          same = omega (arith, same, t);
          level = c.level ∙ level s;
        }

    parameters_counted : (ps : List Parameter) (s : Counts) (ts us : List Word) → so_many x s + length ps ≤ 16384 → next (is_symbol 44) us ≡ false → next is_type us ≡ false → Front (parameters_tokens ps) ts us
        → C s (option (seq (seq grammar.type_rule (grammar.counted_name x)) (repeat (seq (grammar.symbol_of 44) (seq grammar.type_rule (grammar.counted_name x)))))) ts (parameters_tree ps) us (length ps)
    parameters_counted [] s ts us k q d h = record { after = s; reads = front_is end s s _ ts us us _ h.told (passed d); more = nothing_more (so_many x s); same = nothing_more (so_many y s); level = refl }
    parameters_counted (a ∷ ps) s ts us k q d h =
        let p = front_split (parameter_tokens a) (flat_map next_tokens ps) ts us h in
        let e = one s in
        let few : so_many x s < 16384 = omega (arith, k) in
        let left : so_many x (one_more x s) + length ps ≤ 16384 = omega (arith, k, e) in
        let c = further_counted ps (one_more x s) p.0 us left q p.2 in
        let m = c.more in
        let same = c.same in
        let t = stays s in
        let f = type_front a.type (name_said a.name ∷ []) ts p.0 p.1 in
        record {
          after = c.after;
          reads = taken (next_by is_type true _ _ ts p.0 f (type_is a.type)) (both (parameter_counted a s ts p.0 few p.1) c.reads);
          more = omega (arith, m, e);
          same = omega (arith, same, t);
          level = c.level ∙ level s;
        }

  -- ---- class variables

  abbrev V : Counts → JackRule → List Word → Tree Said → List Word → ℕ → ℕ → Type 0
  V s r ts t us n m = Counting end counted.Static counted.Field s r ts t us n m

  variables_by : (sc : Scope) (t : ValueType) (ns : Names) (s : Counts) (ts us : List Word) → s.statics + statics_by sc (names_of ns) ≤ 16384 → s.fields + fields_by sc (names_of ns) ≤ 16384
      → Front (scope_tokens sc ++ (type_tokens t ++ (names_tokens ns ++ sign_of 59 ∷ []))) ts us → V s grammar.class_variables ts (scoped sc (declared_tree t ns)) us (statics_by sc (names_of ns)) (fields_by sc (names_of ns))
  variables_by Static t ns s ts us k l h =
      let c = declared_counted counted.Static counted.Field (λ u. refl) (λ u. refl) (λ u. refl) keyword.Static t ns s ts us (λ w. refl) k h in
      record { after = c.after; reads = left (next_by (is_keyword keyword.Static) true _ _ ts us h (λ w. refl)) c.reads; more = c.more; same = c.same; level = c.level }
  variables_by Field t ns s ts us k l h =
      let c = declared_counted counted.Field counted.Static (λ u. refl) (λ u. refl) (λ u. refl) keyword.Field t ns s ts us (λ w. refl) l h in
      record { after = c.after; reads = right (next_by (is_keyword keyword.Static) false _ _ ts us h (λ w. refl)) (next_by (is_keyword keyword.Field) true _ _ ts us h (λ w. refl)) c.reads; more = c.same; same = c.more; level = c.level }

  scope_first : (sc : Scope) (vs : Tokens) (ts us : List Word) → Front (scope_tokens sc ++ vs) ts us → next is_scope ts ≡ true
  scope_first Static vs ts us h = next_by is_scope true _ _ ts us h (λ w. refl)
  scope_first Field vs ts us h = next_by is_scope true _ _ ts us h (λ w. refl)

  all_variables : (vs : List ClassVariables) (s : Counts) (ts us : List Word) → s.statics + total statics_in vs ≤ 16384 → s.fields + total fields_in vs ≤ 16384 → next is_scope us ≡ false → Front (flat_map variables_tokens vs) ts us
      → V s (repeat grammar.class_variables) ts (tree_of_list variables_tree vs NoMore) us (total statics_in vs) (total fields_in vs)
  all_variables [] s ts us k l q h = record { after = s; reads = front_is end s s _ ts us us _ h.told (ended q); more = nothing_more s.statics; same = nothing_more s.fields; level = refl }
  all_variables (v ∷ vs) s ts us k l q h =
      let p = front_split (variables_tokens v) (flat_map variables_tokens vs) ts us h in
      let ks : s.statics + statics_in v ≤ 16384 = omega (arith, k) in
      let kf : s.fields + fields_in v ≤ 16384 = omega (arith, l) in
      let a = variables_by v.scope v.type v.names s ts p.0 ks kf p.1 in
      let am : a.after.statics ≡ s.statics + statics_in v = a.more in
      let an : a.after.fields ≡ s.fields + fields_in v = a.same in
      let ls : a.after.statics + total statics_in vs ≤ 16384 = omega (arith, k, am) in
      let lf : a.after.fields + total fields_in vs ≤ 16384 = omega (arith, l, an) in
      let b = all_variables vs a.after p.0 us ls lf q p.2 in
      let bm : b.after.statics ≡ a.after.statics + total statics_in vs = b.more in
      let bn : b.after.fields ≡ a.after.fields + total fields_in vs = b.same in
      record { after = b.after; reads = again (scope_first v.scope _ ts p.0 p.1) a.reads b.reads; more = omega (arith, am, bm); same = omega (arith, an, bn); level = b.level ∙ a.level }

  -- ---- subroutines

  all_locals : (vs : List Locals) (s : Counts) (ts us : List Word) → s.locals + total (λ v. names_of v.names) vs ≤ 16384 → next (is_keyword keyword.Var) us ≡ false → Front (flat_map locals_tokens vs) ts us
      → (s' : Counts) × R end s (repeat grammar.locals_rule) ts (tree_of_list locals_tree vs NoMore) s' us × (s'.nesting ≡ s.nesting)
  all_locals [] s ts us k q h = (s, front_is end s s _ ts us us _ h.told (ended q), refl)
  all_locals (v ∷ vs) s ts us k q h =
      let p = front_split (locals_tokens v) (flat_map locals_tokens vs) ts us h in
      let kv : s.locals + names_of v.names ≤ 16384 = omega (arith, k) in
      let a = declared_counted counted.Local counted.Parameter (λ u. refl) (λ u. refl) (λ u. refl) keyword.Var v.type v.names s ts p.0 (λ w. refl) kv p.1 in
      let am : a.after.locals ≡ s.locals + names_of v.names = a.more in
      let lv : a.after.locals + total (λ w. names_of w.names) vs ≤ 16384 = omega (arith, k, am) in
      let b = all_locals vs a.after p.0 us lv q p.2 in
      (b.0, again (next_by (is_keyword keyword.Var) true _ _ ts p.0 p.1 (λ w. refl)) a.reads b.1, b.2 ∙ a.level)

  -- a statement or the end of the body is no `var`
  no_var : (ss : _) (at : Place) (ts us : List Word) → Front (statements_tokens ss ++ brace_at at ∷ []) ts us → next (is_keyword keyword.Var) ts ≡ false
  no_var ss at ts us h =
      let p = front_split (statements_tokens ss) (brace_at at ∷ []) ts us h in
      first_of_all (is_keyword keyword.Var) false (λ w. refl) (λ w. refl) (λ w. refl) (λ w. refl) (λ w. refl) ss ts p.0 p.1 (next_by (is_keyword keyword.Var) false _ _ p.0 us p.2 (λ w. refl))

  subroutine_reads : (t : Subroutine) (s : Counts) (ts us : List Word) → SubroutineKeeps t → s.nesting ≡ 0 → Front (subroutine_tokens t) ts us → R end s grammar.subroutine ts (subroutine_tree t) s us
  subroutine_reads t s ts us k z h =
      let begun = fresh s.nesting in
      let body = statements_tokens t.statements ++ brace_at t.close ∷ [] in
      let inner = sign_of 123 ∷ (flat_map locals_tokens t.locals ++ body) in
      let params = sign_of 40 ∷ (parameters_tokens t.parameters ++ sign_of 41 ∷ inner) in
      let after_result = name_said t.name ∷ params in
      let f = form_front t.form (result_tokens t.result ++ after_result) ts us h in
      let g = result_front t.result after_result _ us (behind_says (form_said t.form) (result_tokens t.result ++ after_result) ts us f) in
      let n = behind_says (result_said t.result) after_result _ us g in
      let o = behind_says (name_said t.name) params _ us n in
      let p = front_split (parameters_tokens t.parameters) (sign_of 41 ∷ inner) _ us (behind_says (sign_of 40) (parameters_tokens t.parameters ++ sign_of 41 ∷ inner) _ us o) in
      let i = behind_says (sign_of 41) inner p.0 us p.2 in
      let j = behind_says (sign_of 123) (flat_map locals_tokens t.locals ++ body) _ us i in
      let l = front_split (flat_map locals_tokens t.locals) body _ us j in
      let b = front_split (statements_tokens t.statements) (brace_at t.close ∷ []) l.0 us l.2 in
      let few = k.parameters in
      let few_locals = k.locals in
      let ps = parameters_counted counted.Parameter counted.Local (λ u. refl) (λ u. refl) (λ u. refl) t.parameters begun _ p.0 (omega (arith, few)) (next_by (is_symbol 44) false _ _ p.0 us p.2 (λ w. refl)) (next_by is_type false _ _ p.0 us p.2 (λ w. refl)) p.1 in
      let none : ps.after.locals ≡ 0 + 0 = ps.same in
      let vs = all_locals t.locals ps.after _ l.0 (omega (arith, none, few_locals)) (no_var t.statements t.close l.0 us l.2) l.1 in
      let level : vs.0.nesting ≡ 0 = vs.2 ∙ ps.level ∙ z in
      let done : Done b.0 = (next_by statement_opens false _ _ b.0 us b.2 (λ w. refl), next_by (is_keyword keyword.Else) false _ _ b.0 us b.2 (λ w. refl)) in
      let ss = statements_read end t.statements vs.0 l.0 b.0 (subst (λ (d : ℕ). StatementsKeepIn d t.statements) (sym level) k.statements) done b.1 in
      inside (next_by is_form true _ _ ts us f (form_is t.form)) refl
      (word_next end is_form fixed_word (form_said t.form) _ _ begun vs.0 ts us _ (form_is t.form) (form_value t.form) f
      (word_next end is_result type_said (result_said t.result) _ _ begun vs.0 _ us _ (result_is t.result) (result_value t.result) g
      (word_next end is_identifier grammar.named_word (name_said t.name) _ _ begun vs.0 _ us _ (λ w. refl) (λ w d. name_value w t.name d) n
      (mark_next end (is_symbol 40) (sign_of 40) _ _ begun vs.0 _ us _ (λ w. refl) o
      (both ps.reads
      (mark_next end (is_symbol 41) (sign_of 41) _ _ ps.after vs.0 p.0 us _ (λ w. refl) p.2
      (mark_next end (is_symbol 123) (sign_of 123) _ _ ps.after vs.0 _ us _ (λ w. refl) i
      (both vs.1 (both ss (word_last end (is_symbol 125) placed_word (brace_at t.close) vs.0 b.0 us (λ w. refl) (λ w d. placed_value w (kind.Symbol 125) t.close d) b.2))))))))))

  all_subroutines : (ts : List Subroutine) (s : Counts) (ws us : List Word) → SubroutinesKeep ts → s.nesting ≡ 0 → next is_form us ≡ false → Front (flat_map subroutine_tokens ts) ws us → R end s (repeat grammar.subroutine) ws (tree_of_list subroutine_tree ts NoMore) s us
  all_subroutines [] s ws us k z q h = front_is end s s _ ws us us _ h.told (ended q)
  all_subroutines (t ∷ ts) s ws us k z q h =
      let p = front_split (subroutine_tokens t) (flat_map subroutine_tokens ts) ws us h in
      again (next_by is_form true _ _ ws p.0 (form_front t.form _ ws p.0 p.1) (form_is t.form)) (subroutine_reads t s ws p.0 k.0 z p.1) (all_subroutines ts s p.0 us k.1 z q p.2)

  -- a subroutine or the end of the class is neither `static` nor `field`
  form_no_scope : (f : Form) (w : Word) → is_scope (record w { kind = said_kind (form_said f) }) ≡ false
  form_no_scope Constructor w = refl
  form_no_scope Function w = refl
  form_no_scope Method w = refl

  no_scope : (ts : List Subroutine) (ws us : List Word) → Front (flat_map subroutine_tokens ts) ws us → next is_scope us ≡ false → next is_scope ws ≡ false
  no_scope [] ws us h q = next_same is_scope false ws us h.told q
  no_scope (t ∷ ts) ws us h q =
      let p = front_split (subroutine_tokens t) (flat_map subroutine_tokens ts) ws us h in
      next_by is_scope false _ _ ws p.0 (form_front t.form _ ws p.0 p.1) (form_no_scope t.form)

  pub class_reads : (c : Class) (ts : List Word) → KeepsLimits c → Front (class_tokens c) ts [] → (s' : Counts) × R end (fresh 0) grammar.whole ts (whole_tree c) s' []
  class_reads c ts k h =
      let close = sign_of 125 ∷ [] in
      let body = flat_map variables_tokens c.variables ++ (flat_map subroutine_tokens c.subroutines ++ close) in
      let n = behind_says (Fixed (kind.Keyword keyword.Class)) (name_said c.name ∷ sign_of 123 ∷ body) ts [] h in
      let o = behind_says (name_said c.name) (sign_of 123 ∷ body) _ [] n in
      let v = front_split (flat_map variables_tokens c.variables) (flat_map subroutine_tokens c.subroutines ++ close) _ [] (behind_says (sign_of 123) body _ [] o) in
      let w = front_split (flat_map subroutine_tokens c.subroutines) close v.0 [] v.2 in
      let ks = k.statics in
      let kf = k.fields in
      let vs = all_variables c.variables (fresh 0) _ v.0 (omega (arith, ks)) (omega (arith, kf)) (no_scope c.subroutines v.0 w.0 w.1 (next_by is_scope false _ _ w.0 [] w.2 (λ t. refl))) v.1 in
      let ss = all_subroutines c.subroutines vs.after v.0 w.0 k.subroutines vs.level (next_by is_form false _ _ w.0 [] w.2 (λ t. refl)) w.1 in (
        vs.after,
        both
            (mark_next end (is_keyword keyword.Class) (Fixed (kind.Keyword keyword.Class)) _ _ (fresh 0) vs.after ts [] _ (λ t. refl) h
            (word_next end is_identifier grammar.named_word (name_said c.name) _ _ (fresh 0) vs.after _ [] _ (λ t. refl) (λ t d. name_value t c.name d) n
            (mark_next end (is_symbol 123) (sign_of 123) _ _ (fresh 0) vs.after _ [] _ (λ t. refl) o
            (both vs.reads (both ss (symbol_last end 125 vs.after w.0 [] w.2))))))
            at_end,
      )
