-- A program without a name fault is one whose names are resolved.
use Rattle.std.proofs.Common.{◌≡◌, ◌<◌, ◌≤◌, ℕ, zero, suc, ◌+◌, true, false, nat_lt, List, [], ◌∷◌, ◌++◌, map, length, get_or, codes, Option, Some, None, refl, sym, ap, subst, ◌∙◌, arith}
use Rattle.std.specs.Prelude.{slice_get}
use Rattle.std.specs.List.{All}
use Rattle.std.proofs.lemmas.Bool.{lt-ltb, ltb-true, and_from, and_parts}
use Rattle.std.proofs.lemmas.List.{map-append, length-map, length-append, append-nil}
use Rattle.std.proofs.lemmas.List.Elements.{All-append, All-get_or}
use Rattle.scan_text.specs.Text.{nowhere}
use Rattle.vm_link.specs.Faults.{sys_init}
use Rattle.jack_meaning.specs.Text.{Program}
use Rattle.jack_meaning.specs.Text.{Subroutine as Meant, Class as MeantClass}
use Rattle.jack_meaning.specs.Meaning.{subroutine_at}
use Rattle.jack_compiler.specs.Fits.{Scope, scope_of}
use Rattle.jack_compiler.specs.Files.{statics_before}
use Rattle.jack_compiler.specs.Resolved.{named_in, AreInOrder, IsResolvedSubroutine, IsResolved}
use Rattle.jack_tree.specs.declared.tree.Class.{Class}
use Rattle.name_table.specs.Names.{first_of}
use Rattle.jack_tree.specs.declared.tree.Form.TheVariants as form
use Rattle.jack_names.specs.Inner.Scopes.{signature_kind, made_kind}
use Rattle.jack_names.specs.Symbols.{Symbols, symbols_of, objects}
use Rattle.jack_names.specs.Limits.{AreWithin}
use Rattle.jack_names.specs.Inner.Meant.{number_by}
use Rattle.jack_names.specs.Inner.Whole.{declared_fault, main_fault, uses_fault, os_fault, start_scope, start_fault, system_file, all_statics, all_uses_fault, WellNamed, start_subroutine, subroutines_meant, all_subroutines_meant, class_meant, found_by, program_meant, names_meant, all_names_meant}
use Rattle.jack_names.specs.declared.scope.Way.TheVariants as way
use Rattle.jack_names.specs.declared.scope.Signature.{Signature}
use Rattle.tower.specs.Read.{AreReadClasses}
use Rattle.tower.proofs.NamedFaults.{none_both}
use Rattle.tower.proofs.NamedSound.{Takes, IsSound, signature_sound}
use Rattle.tower.proofs.NamedExpressions.{made_none}
use Rattle.tower.proofs.NamedFlat.{owned, flat, flat-append, find, numbered}
use Rattle.tower.proofs.NamedApart.{AreApart, apart_at}
use Rattle.tower.proofs.NamedDots.{names_apart, start_new, both_declared, read_append, names_meant-append}
use Rattle.tower.proofs.NamedRows.{arity, named, taken, taken_at, mapped_at, name_at, all_taken, all_named, in_order, before_front, before_behind, statics_few}
use Rattle.tower.proofs.NamedClasses.{Counted, classes_resolved, os_none}

module _ (own os : List Class) where
  abbrev all : List Class
  all = own ++ os

  abbrev symbols : Symbols
  symbols = symbols_of (own ++ os)

  abbrev program : Program
  program = program_meant own os

  abbrev subs : List Meant
  subs = all_subroutines_meant symbols own os

  taken_are : taken subs ≡ map arity (flat all)
  taken_are =
      let p = all_taken symbols false 0 0 own in
      let q = all_taken symbols true (length own) (all_statics own) os in
      map-append (λ s. s.arguments) (subroutines_meant symbols false 0 0 own) (subroutines_meant symbols true (length own) (all_statics own) os)
      ∙ (λ i. p i ++ q i) ∙ sym (map-append arity (flat own) (flat os)) ∙ ap (map arity) (sym (flat-append own os))

  subs_length : length subs ≡ length (flat all)
  subs_length = sym (length-map subs (λ s. s.arguments)) ∙ ap length taken_are ∙ length-map (flat all) arity

  names_are : names_meant own ++ names_meant os ≡ map named (flat all)
  names_are = sym (names_meant-append own os) ∙ all_named all

  names_length : length (all_names_meant own os) ≡ length program.subroutines
  names_length = ap suc (ap length names_are ∙ length-map (flat all) named ∙ sym subs_length)

  -- a subroutine that is found is there
  signs : (class k : ℕ) (f : List ℕ) (g : Signature) → symbols.subroutine k f ≡ Some g → (scope : Scope) → Takes program.subroutines (named_in program class) scope g.number (objects g.form + g.parameters)
  signs class k f g h scope =
      let r = find 1 all k f g h in
      let t = taken_at subs r.place (arity (owned r.class r.subroutine)) (subroutine_at [] 0)
      (ap (λ (l : List ℕ). slice_get l r.place) taken_are ∙ mapped_at arity (flat all) r.place (owned r.class r.subroutine) r.there) in
      let n : g.number ≡ suc r.place = r.number ∙ omega arith in
      let below = t.0 in
      let same : objects g.form + g.parameters ≡ arity (owned r.class r.subroutine) = λ i. objects (r.form i) + r.parameters i in
      record {
        kept = and_from _ _ (lt-ltb 0 g.number (omega arith)) (lt-ltb g.number (length program.subroutines) (omega arith));
        arguments = same ∙ sym t.1 ∙ ap (λ (j : ℕ). (subroutine_at program.subroutines j).arguments) (sym n);
      }

  classes_length : length program.classes ≡ length own + length os
  classes_length =
      let a = length-map own class_meant in
      let b = length-map os class_meant in
      length-append (map class_meant own) (map class_meant os) ∙ (λ i. a i + b i)

  own_counted : Counted program symbols signs 0 0 own
  own_counted j l =
      let a : 0 + j ≡ j = omega arith in
      let b = length-map own class_meant in
      ap (statics_before program.classes) a ∙ before_front (map class_meant own) (map class_meant os) j (omega arith) ∙ omega arith

  os_counted : Counted program symbols signs (length own) (all_statics own) os
  os_counted j l = before_behind own (map class_meant os) j

  subs_order : AreInOrder 0 subs
  subs_order =
      in_order symbols false 0 0 0 own (subroutines_meant symbols true (length own) (all_statics own) os)
      (λ b l. subst (AreInOrder b) (append-nil (subroutines_meant symbols true (length own) (all_statics own) os))
      (in_order symbols true (length own) (all_statics own) b os [] (λ d m. tt) (omega arith))) (omega arith)

  no_more : (k : ℕ) → statics_before [] (suc k) ≤ statics_before [] k + 65535
  no_more k = omega arith

  statics_are : AreReadClasses own → AreReadClasses os → (k : ℕ) → statics_before program.classes (suc k) ≤ statics_before program.classes k + 65535
  statics_are a b k =
      statics_few own (map class_meant os) a
      (λ j. subst (λ (l : List MeantClass). statics_before l (suc j) ≤ statics_before l j + 65535) (append-nil (map class_meant os)) (statics_few os [] b no_more j)) k

  -- what no fault says
  module _ (well : WellNamed own os) (few : AreWithin own) (os_few : AreWithin os) (read : AreReadClasses own) (os_read : AreReadClasses os) where
    uses_none : (uses_fault symbols false 0 0 own ≡ None) × (os_fault symbols (length own) (all_statics own) os ≡ None)
    uses_none =
        let a = none_both (declared_fault own os) (first_of (main_fault symbols) (all_uses_fault symbols own os)) well in
        let b = none_both (main_fault symbols) (all_uses_fault symbols own os) a.1 in
        none_both (uses_fault symbols false 0 0 own) (os_fault symbols (length own) (all_statics own) os) b.1

    all_resolved : All (IsResolvedSubroutine program) subs
    all_resolved =
        let l = classes_length in
        let o = os_none symbols (length own) (all_statics own) os uses_none.1 in
        All-append (IsResolvedSubroutine program) (subroutines_meant symbols false 0 0 own) (subroutines_meant symbols true (length own) (all_statics own) os)
        (classes_resolved program symbols signs false 0 0 own own_counted (omega arith) few read uses_none.0)
        (classes_resolved program symbols signs true (length own) (all_statics own) os os_counted (omega arith) os_few os_read o.1)

    each_resolved : (g : ℕ) → 0 < g → g < length program.subroutines → IsResolvedSubroutine program (subroutine_at program.subroutines g)
    each_resolved zero p q = absurd (omega arith)
    each_resolved (suc g) p q = All-get_or (IsResolvedSubroutine program) subs g (subroutine_at [] 0) (omega arith) all_resolved

    all_apart : AreApart (all_names_meant own os)
    all_apart =
        let a = none_both (declared_fault own os) (first_of (main_fault symbols) (all_uses_fault symbols own os)) well in
        subst (λ (l : List (List ℕ)). AreApart (codes "start" ∷ l)) (names_meant-append own os)
        (start_new all, names_apart all (read_append own os read os_read) (both_declared own os a.0))

    -- Sys.init
    init_none : start_fault symbols ≡ None
    init_none = (os_none symbols (length own) (all_statics own) os uses_none.1).0

    start_sound : IsSound program.subroutines (named_in program 0) (scope_of start_subroutine) (start_scope symbols)
    start_sound = record {
      variable = λ x v h. absurd cc;
      subroutine = λ k f g h. signs 0 k f g h (scope_of start_subroutine);
      object = λ h. absurd cc;
    }

    -- the subroutine of a number is Sys.init, without arguments
    record IsInit (g : ℕ) : Type 0 where
      positive : 0 < g
      below : g < length program.subroutines
      name : get_or (all_names_meant own os) g [] ≡ sys_init
      arguments : (subroutine_at program.subroutines g).arguments ≡ 0

    init_at : (k : ℕ) (o : Option Signature) → symbols.class (codes "Sys") ≡ Some k → symbols.subroutine k (codes "init") ≡ o → signature_kind form.Function way.ByClass 0 o ≡ None → IsInit (number_by o)
    init_at k None e p h = absurd cc
    init_at k (Some g) e p h =
        let t = signature_sound program.subroutines (named_in program 0) (scope_of start_subroutine) (start_scope symbols) start_sound form.Function way.ByClass 0 k (codes "init") (Some g) p h in
        let kept = and_parts (nat_lt 0 g.number) (nat_lt g.number (length program.subroutines)) t.kept in
        let r = find 1 all k (codes "init") g p in
        let c = numbered 0 all (codes "Sys") k e in
        let at : k ≡ c.place = c.number ∙ omega arith in
        let both : Some c.class ≡ Some r.class = sym c.there ∙ ap (slice_get all) (sym at) ∙ r.class_there in
        let same : c.class ≡ r.class = cc in
        let front : codes "Sys" ≡ r.class.name.text = c.name ∙ ap (λ (d : Class). d.name.text) same in
        let n : g.number ≡ suc r.place = r.number ∙ omega arith in
        let there = name_at (names_meant own ++ names_meant os) r.place (named (owned r.class r.subroutine))
        (ap (λ (l : List (List ℕ)). slice_get l r.place) names_are ∙ mapped_at named (flat all) r.place (owned r.class r.subroutine) r.there) in
        let spelled : named (owned r.class r.subroutine) ≡ sys_init = λ i. sym front i ++ (codes "." ++ sym r.name i) in
        record {
          positive = ltb-true 0 g.number kept.0;
          below = ltb-true g.number (length program.subroutines) kept.1;
          name = ap (λ (j : ℕ). get_or (all_names_meant own os) j []) n ∙ there ∙ spelled;
          arguments = sym t.arguments;
        }

    init_by : (o : Option ℕ) → symbols.class (codes "Sys") ≡ o → made_kind (start_scope symbols) way.ByClass (codes "init") 0 o ≡ None → IsInit (number_by (found_by symbols (codes "init") o))
    init_by None e h = absurd cc
    init_by (Some k) e h = init_at k (symbols.subroutine k (codes "init")) e refl h

    init_is : IsInit program.init
    init_is =
        init_by (symbols.class (codes "Sys")) refl
        (made_none system_file (codes "Sys") (codes "init") nowhere (made_kind (start_scope symbols) way.ByClass (codes "init") 0 (symbols.class (codes "Sys"))) init_none)

    is_resolved : IsResolved program (all_names_meant own os)
    is_resolved = record {
      each = each_resolved;
      order = subs_order;
      statics = statics_are read os_read;
      named = names_length;
      apart = λ g h p q e. apart_at (all_names_meant own os) all_apart g h p q e;
      init = init_is.positive;
      init_there = init_is.below;
      init_name = init_is.name;
      init_arguments = init_is.arguments;
    }

pub well_named_resolved : (own os : List Class) → WellNamed own os → AreWithin own → AreWithin os → AreReadClasses own → AreReadClasses os → IsResolved (program_meant own os) (all_names_meant own os)
well_named_resolved own os well few os_few read os_read = is_resolved own os well few os_few read os_read
