-- Linked code is sound.
use Rattle.std.proofs.Common.{◌≡◌, ◌+◌, ◌<◌, ◌≤◌, ◌++◌, ℕ, zero, suc, Bool, true, false, cond, List, [], ◌∷◌, Option, Some, None, is_some, option_map, unwrap_or, Result, Ok, Err, IfOk, length, map, refl, sym, ap, subst, ◌∙◌, arith, slice_get, if◌then◌else◌}
use Rattle.std.specs.Prelude.{All, IsSomeAnd}
use Rattle.std.specs.List.{list_any, position_from, filter_map, cons_option}
use Rattle.std.specs.Option.{option_or}
use Rattle.std.proofs.lemmas.Bool.{or_left, or_right}
use Rattle.vm_tree.specs.declared.command.Line.{Line}
use Rattle.vm_tree.specs.declared.command.Command.{Command}
use Rattle.vm_tree.specs.declared.command.Command.TheVariants as command
use Rattle.vm_tree.specs.declared.command.Segment.{Segment}
use Rattle.vm_tree.specs.declared.command.Segment.TheVariants as segment
use Rattle.vm_tree.specs.declared.program.File.{File}
use Rattle.vm_link.specs.declared.linked.Step.{Step}
use Rattle.vm_link.specs.declared.linked.Code.{Code}
use Rattle.vm_link.specs.declared.linked.Linked.{Linked}
use Rattle.vm_link.specs.declared.fault.LinkFault.{LinkFault}
use Rattle.vm_link.specs.Sections as sections
use Rattle.vm_link.specs.Sections.{Section, is_named, has_name, target, label, labels, calls, stands_in}
use Rattle.vm_link.specs.Faults.{first_of, first_repeat, names, label_twice, lacking, no_label, no_function, static_words, words_at, words_of_lines, words_before, sys_init, no_start, text_fault, kept_fault}
use Rattle.vm_link.specs.Reached.{Reached, Keeps, none, kept, dropped, AreKept, IsFunction, start, called}
use Rattle.vm_link.specs.Resolved.{steps, label_place, first_place, number_in, index_in, step_of, code_of, entry_of, function_of, linked_of}
use Rattle.vm_link.specs.Sound.{IsIndex, IsSoundStep, IsSoundFunction, IsSound}
use Rattle.vm_link.specs.declared.fault.LinkFault.TheVariants.{NoSysInit, NoLabel, NoFunction, TwiceDefined, LabelTwice}
use Rattle.vm_link.specs.Links.{Links, whole}
use Rattle.std.specs.Str.{bytes_eq}
use Rattle.std.proofs.lemmas.Slice.Eq.{bytes_eq-Decides}
use Rattle.vm_link.proofs.LinkLemmas.{room_at}
use Rattle.vm_link.proofs.Notes.{place_there, position_there}
use Rattle.vm_link.proofs.Marking.{position_below, some_same, length_mapped}

-- a fact for each item
Each : {A : Type 0} → (A → Type 0) → List A → Type 0
Each P [] = Unit {0}
Each P (x ∷ xs) = P x × Each P xs

each_all : {A : Type 0} (P : A → Type 0) (xs : List A) → Each P xs → All P xs
unfolding Each
each_all P [] e k d h = absurd (omega arith)
each_all P (x ∷ xs) e zero d h = e.0
each_all P (x ∷ xs) e (suc k) d h = each_all P xs e.1 k d (omega arith)

each_both : {A : Type 0} (P : A → Type 0) (xs ys : List A) → Each P xs → Each P ys → Each P (xs ++ ys)
unfolding Each
each_both P [] ys e f = f
each_both P (x ∷ xs) ys e f = (e.0, each_both P xs ys e.1 f)

Holds : {A : Type 0} → (A → Type 0) → Option A → Type 0
Holds P None = Unit {0}
Holds P (Some x) = P x

each_filtered : {A B : Type 0} (P : B → Type 0) (f : A → Option B) (xs : List A) → Each (λ x. Holds P (f x)) xs → Each P (filter_map f xs)
unfolding Each Holds
each_filtered {A} {B} P f [] e = tt
each_filtered {A} {B} P f (x ∷ xs) e = by_item (f x) (filter_map f xs) e.0 (each_filtered P f xs e.1)
  where
    by_item : (o : Option B) (r : List B) → Holds P o → Each P r → Each P (cons_option o r)
    by_item None r h e = e
    by_item (Some y) r h e = (h, e)

-- what is asked of a command of a section
record Good (ks : List Section) (s : Section) (c : Command) : Type 0 where
  place : (l : List ℕ) → target c ≡ Some l → is_some (label_place l (first_place s) s.lines) ≡ true
  number : (f : List ℕ) → sections.called_name c ≡ Some f → list_any (is_named f) ks ≡ true
  room : words_before ks s.file + static_words c ≤ 240

unwrapped : (n : ℕ) (o : Option ℕ) → is_some o ≡ true → ((p : ℕ) → o ≡ Some p → p ≤ n) → unwrap_or o 0 ≤ n
unwrapped n None h f = absurd cc
unwrapped n (Some p) h f = f p refl

unwrapped_below : (n : ℕ) (o : Option ℕ) → is_some o ≡ true → ((p : ℕ) → o ≡ Some p → p < n) → unwrap_or o 0 < n
unwrapped_below n None h f = absurd cc
unwrapped_below n (Some p) h f = f p refl

index_sound : (before : ℕ) (g : Segment) (i : ℕ) → before + words_at g i ≤ 240 → IsIndex g (index_in before g i)
index_sound before segment.Static i h = omega arith
index_sound before segment.Argument i h = tt
index_sound before segment.Local i h = tt
index_sound before segment.Constant i h = tt
index_sound before segment.This i h = tt
index_sound before segment.That i h = tt
index_sound before segment.Pointer i h = tt
index_sound before segment.Temp i h = tt

number_sound : (ks : List Section) (f : List ℕ) → list_any (is_named f) ks ≡ true → number_in ks f < length ks
number_sound ks f h = unwrapped_below (length ks) (position_from (is_named f) 0 ks) (position_there (is_named f) 0 ks ∙ h)
    (λ p e. let b : p < 0 + length ks = position_below (is_named f) 0 ks p e in omega arith)

step_sound : (ks : List Section) (s : Section) (n : ℕ) (c : Command) → ((l : List ℕ) (p : ℕ) → label_place l (first_place s) s.lines ≡ Some p → p ≤ n)
    → Good ks s c → Holds (IsSoundStep (length ks) n) (step_of ks s c)
unfolding Holds
step_sound ks s n (command.Operate o) bound good = tt
step_sound ks s n (command.Push g i) bound good = index_sound (words_before ks s.file) g i good.room
step_sound ks s n (command.Pop g i) bound good = index_sound (words_before ks s.file) g i good.room
step_sound ks s n (command.Label l) bound good = tt
step_sound ks s n (command.Goto l) bound good = unwrapped n _ (good.place l refl) (bound l)
step_sound ks s n (command.IfGoto l) bound good = unwrapped n _ (good.place l refl) (bound l)
step_sound ks s n (command.Call f a) bound good = number_sound ks f (good.number f refl)
step_sound ks s n command.Return bound good = tt

code_sound : (ks : List Section) (s : Section) (n : ℕ) (x : Line) → Holds (IsSoundStep (length ks) n) (step_of ks s x.command)
    → Holds (λ (c : Code). IsSoundStep (length ks) n c.step) (code_of ks s x)
unfolding Holds
code_sound ks s n x h = by_step (step_of ks s x.command) h
  where
    by_step : (o : Option Step) → Holds (IsSoundStep (length ks) n) o → Holds (λ (c : Code). IsSoundStep (length ks) n c.step) (option_map (λ c. record { step = c; statement = x.statement; commit = x.commit }) o)
    by_step None h = tt
    by_step (Some c) h = h

step_count : (ks : List Section) (s : Section) (c : Command) (f : Step → Code) (r : List Code) → length (cons_option (option_map f (step_of ks s c)) r) ≡ steps c + length r
step_count ks s (command.Operate o) f r = omega arith
step_count ks s (command.Push g i) f r = omega arith
step_count ks s (command.Pop g i) f r = omega arith
step_count ks s (command.Label l) f r = omega arith
step_count ks s (command.Goto l) f r = omega arith
step_count ks s (command.IfGoto l) f r = omega arith
step_count ks s (command.Call n a) f r = omega arith
step_count ks s command.Return f r = omega arith

label_bound : (ks : List Section) (s : Section) (l : List ℕ) (at : ℕ) (lines : List Line) (p : ℕ) → label_place l at lines ≡ Some p
    → p ≤ at + length (filter_map (code_of ks s) lines)
label_bound ks s l at [] p e = absurd cc
label_bound ks s l at (x ∷ xs) p e =
    by_test (has_name l (label x.command)) e (λ f. label_bound ks s l (at + steps x.command) xs p f)
    (step_count ks s x.command (λ c. record { step = c; statement = x.statement; commit = x.commit }) (filter_map (code_of ks s) xs))
  where
    by_test : (b : Bool) → (if b then Some at else label_place l (at + steps x.command) xs) ≡ Some p
        → (label_place l (at + steps x.command) xs ≡ Some p → p ≤ at + steps x.command + length (filter_map (code_of ks s) xs))
        → length (filter_map (code_of ks s) (x ∷ xs)) ≡ steps x.command + length (filter_map (code_of ks s) xs)
        → p ≤ at + length (filter_map (code_of ks s) (x ∷ xs))
    by_test true e go n = let same : at ≡ p = some_same e in omega arith
    by_test false e go n = let ih = go e in omega arith

-- the code of a section whose commands are good
each_line : (ks : List Section) (s : Section) (n : ℕ) (lines : List Line) → ((l : List ℕ) (p : ℕ) → label_place l (first_place s) s.lines ≡ Some p → p ≤ n)
    → Each (λ x. Good ks s x.command) lines → Each (λ x. Holds (λ (c : Code). IsSoundStep (length ks) n c.step) (code_of ks s x)) lines
unfolding Each
each_line ks s n [] bound good = tt
each_line ks s n (x ∷ xs) bound good = (code_sound ks s n x (step_sound ks s n x.command bound good.0), each_line ks s n xs bound good.1)

entry_sound : (k n : ℕ) (name : Option (List ℕ)) (locals : ℕ) (lines : List Line) → Each (λ (c : Code). IsSoundStep k n c.step) (entry_of name locals lines)
unfolding Each
entry_sound k n None locals lines = tt
entry_sound k n (Some name) locals lines = (tt, tt)

entry_count : (name : Option (List ℕ)) (locals : ℕ) (lines : List Line) (r : List Code) → (if is_some name then 1 else 0) + length r ≡ length (entry_of name locals lines ++ r)
entry_count None locals lines r = omega arith
entry_count (Some name) locals lines r = omega arith

function_sound : (ks : List Section) (s : Section) → Each (λ x. Good ks s x.command) s.lines → IsSoundFunction (length ks) (function_of ks s)
function_sound ks s good =
    let n = length (function_of ks s).code in
    let count = entry_count s.name s.locals s.lines (filter_map (code_of ks s) s.lines) in
    let bound : (l : List ℕ) (p : ℕ) → label_place l (first_place s) s.lines ≡ Some p → p ≤ length (function_of ks s).code =
    λ l p e. let b = label_bound ks s l (first_place s) s.lines p e in omega arith in
    each_all _ _ (each_both _ (entry_of s.name s.locals s.lines) (filter_map (code_of ks s) s.lines)
    (entry_sound (length ks) n s.name s.locals s.lines)
    (each_filtered (λ (c : Code). IsSoundStep (length ks) n c.step) (code_of ks s) s.lines (each_line ks s n s.lines bound good)))

-- commands of a section without faults are good
lacking_none : (p : List ℕ → Bool) (o : Option (List ℕ)) (n : List ℕ) → lacking p o ≡ None → o ≡ Some n → p n ≡ true
lacking_none p None n e f = absurd cc
lacking_none p (Some m) n e f = let same : m ≡ n = some_same f in subst (λ z. p z ≡ true) same (by_test (p m) e)
  where
    by_test : (b : Bool) → (if b then None else Some m) ≡ None → b ≡ true
    by_test true e = refl
    by_test false e = absurd cc

or_none_left : {A : Type 0} (o p : Option A) → option_or o p ≡ None → o ≡ None
or_none_left None p e = refl
or_none_left (Some x) p e = absurd cc

or_none_right : {A : Type 0} (o p : Option A) → option_or o p ≡ None → p ≡ None
or_none_right None p e = e
or_none_right (Some x) p e = absurd cc

map_none : {A B : Type 0} (f : A → B) (o : Option A) → option_map f o ≡ None → o ≡ None
map_none f None e = refl
map_none f (Some x) e = absurd cc

called_here : (c : Option (List ℕ)) (f : List ℕ) (rest : List (List ℕ)) → c ≡ Some f → stands_in (cons_option c rest) f ≡ true
called_here None f rest e = absurd cc
called_here (Some g) f rest e = let same : g ≡ f = some_same e in or_left (bytes_eq f g) (stands_in rest f) ((bytes_eq-Decides f g).1 (sym same))

called_later : (c : Option (List ℕ)) (f : List ℕ) (rest : List (List ℕ)) → stands_in rest f ≡ true → stands_in (cons_option c rest) f ≡ true
called_later None f rest e = e
called_later (Some g) f rest e = or_right (bytes_eq f g) (stands_in rest f) e

good_lines : (ss ks : List Section) (s : Section) (lines : List Line)
    → first_of (λ x. lacking (stands_in (labels s.lines)) (target x.command)) lines ≡ None
    → first_of (λ x. lacking (λ f. list_any (is_named f) ss) (sections.called_name x.command)) lines ≡ None
    → ((f : List ℕ) → stands_in (calls lines) f ≡ true → list_any (is_named f) ss ≡ true → list_any (is_named f) ks ≡ true)
    → words_before ks s.file + words_of_lines lines ≤ 240 → Each (λ x. Good ks s x.command) lines
unfolding Each
good_lines ss ks s [] a b c d = tt
good_lines ss ks s (x ∷ xs) a b c d = (
  record {
    place = λ l e. place_there l (first_place s) s.lines ∙ lacking_none _ _ l (or_none_left _ _ a) e;
    number = λ f e. c f (called_here _ f (calls xs) e) (lacking_none (λ n. list_any (is_named n) ss) _ f (or_none_left _ _ b) e);
    room = omega arith;
  },
  good_lines ss ks s xs (or_none_right _ _ a) (or_none_right _ _ b) (λ f h. c f (called_later _ f (calls xs) h)) (omega arith),
)

-- what is kept, in the whole
position_item : {A : Type 0} (p : A → Bool) (at : ℕ) (xs : List A) (i : ℕ) → position_from p at xs ≡ Some i
    → (j : ℕ) × (i ≡ at + j) × ((x : A) × (slice_get xs j ≡ Some x) × (p x ≡ true))
position_item p at [] i e = absurd cc
position_item {A} p at (x ∷ xs) i e = by_test (p x) refl e (λ f. position_item p (at + 1) xs i f)
  where
    by_test : (b : Bool) → p x ≡ b → cond b (Some at) (position_from p (at + 1) xs) ≡ Some i
        → (position_from p (at + 1) xs ≡ Some i → (j : ℕ) × (i ≡ at + 1 + j) × ((y : A) × (slice_get xs j ≡ Some y) × (p y ≡ true)))
        → (j : ℕ) × (i ≡ at + j) × ((y : A) × (slice_get (x ∷ xs) j ≡ Some y) × (p y ≡ true))
    by_test true t f go = let same : at ≡ i = some_same f in (0, omega arith, (x, refl, t))
    by_test false t f go = let r = go f in let e = r.1 in (suc r.0, omega arith, r.2)

keeps_has : (P : ℕ → Type 0) {at : ℕ} {ss ks : List Section} → Keeps P at ss ks → (j : ℕ) (s : Section) (q : Section → Bool) → slice_get ss j ≡ Some s → P (at + j) → q s ≡ true
    → list_any q ks ≡ true
keeps_has P none j s q e h t = absurd cc
keeps_has P (kept {s = s'} {ks = ks} p r) zero s q e h t = let same : s' ≡ s = some_same e in or_left (q s') (list_any q ks) (ap q same ∙ t)
keeps_has P (kept {i = at} {s = s'} {ks = ks} p r) (suc j) s q e h t = or_right (q s') (list_any q ks) (keeps_has P r j s q e (let z : at + suc j ≡ suc at + j = omega arith in subst P z h) t)
keeps_has P (dropped {i = at} p r) zero s q e h t = absurd (p (let z : at + 0 ≡ at = omega arith in subst P z h))
keeps_has P (dropped {i = at} p r) (suc j) s q e h t = keeps_has P r j s q e (let z : at + suc j ≡ suc at + j = omega arith in subst P z h) t

keeps_from : (P : ℕ → Type 0) {at : ℕ} {ss ks : List Section} → Keeps P at ss ks → (i : ℕ) (s : Section) → slice_get ks i ≡ Some s → (j : ℕ) × (slice_get ss j ≡ Some s) × P (at + j)
keeps_from P none i s e = absurd cc
keeps_from P (kept {i = at} p r) zero s e = (0, e, (let z : at ≡ at + 0 = omega arith in subst P z p))
keeps_from P (kept {i = at} p r) (suc i) s e = let f = keeps_from P r i s e in (suc f.0, f.1, (let z : suc at + f.0 ≡ at + suc f.0 = omega arith in subst P z f.2))
keeps_from P (dropped {i = at} p r) i s e = let f = keeps_from P r i s e in (suc f.0, f.1, (let z : suc at + f.0 ≡ at + suc f.0 = omega arith in subst P z f.2))

position_there_is : {A : Type 0} (o : Option A) → is_some o ≡ true → (x : A) × (o ≡ Some x)
position_there_is None e = absurd cc
position_there_is (Some x) e = (x, refl)

-- a reached function of a name is kept
reached_kept : (ss ks : List Section) → Keeps (Reached ss) 0 ss ks → (name : List ℕ) (i : ℕ) → IsFunction ss name i → Reached ss i → list_any (is_named name) ks ≡ true
reached_kept ss ks k name i f r =
    let item = position_item (is_named name) 0 ss i f in
    let e = item.1 in
    keeps_has (Reached ss) k item.0 item.2.0 (is_named name) item.2.1 (subst (Reached ss) e r) item.2.2

closed : (bare : Bool) (ss ks : List Section) → AreKept bare ss ks → (i : ℕ) (s : Section) → slice_get ks i ≡ Some s
    → (f : List ℕ) → stands_in (calls s.lines) f ≡ true → list_any (is_named f) ss ≡ true → list_any (is_named f) ks ≡ true
closed true ss ks k i s e f c h = subst (λ z. list_any (is_named f) z ≡ true) (sym k) h
closed false ss ks k i s e f c h =
    let from = keeps_from (Reached ss) k i s e in
    let j = position_there_is (position_from (is_named f) 0 ss) (position_there (is_named f) 0 ss ∙ h) in
    let z : 0 + from.0 ≡ from.0 = omega arith in
    reached_kept ss ks k f j.0 j.1 (called s f (subst (Reached ss) z from.2) from.1 c j.1)

first_at : {A : Type 0} (f : A → Option (List ℕ)) (xs : List A) (i : ℕ) (x : A) → first_of f xs ≡ None → slice_get xs i ≡ Some x → f x ≡ None
first_at f [] i x e g = absurd cc
first_at f (y ∷ ys) zero x e g = let same : y ≡ x = some_same g in subst (λ z. f z ≡ None) same (or_none_left _ _ e)
first_at f (y ∷ ys) (suc i) x e g = first_at f ys i x (or_none_right _ _ e) g

kept_at : (bare : Bool) (ss ks : List Section) → AreKept bare ss ks → (i : ℕ) (s : Section) → slice_get ks i ≡ Some s → (j : ℕ) × (slice_get ss j ≡ Some s)
kept_at true ss ks k i s e = (i, subst (λ z. slice_get z i ≡ Some s) k e)
kept_at false ss ks k i s e = let f = keeps_from (Reached ss) k i s e in (f.0, f.1)

each_mapped : {A B : Type 0} (P : B → Type 0) (f : A → B) (xs : List A) → ((i : ℕ) (x : A) → slice_get xs i ≡ Some x → P (f x)) → Each P (map f xs)
unfolding Each
each_mapped P f [] h = tt
each_mapped P f (x ∷ xs) h = (h 0 x refl, each_mapped P f xs (λ i y e. h (suc i) y e))

start_kept : (ss ks : List Section) → Keeps (Reached ss) 0 ss ks → list_any (is_named sys_init) ss ≡ true → list_any (is_named sys_init) ks ≡ true
start_kept ss ks k h =
    let j = position_there_is (position_from (is_named sys_init) 0 ss) (position_there (is_named sys_init) 0 ss ∙ h) in
    reached_kept ss ks k sys_init j.0 j.1 (start j.1)

start_is : (bare : Bool) (ss : List Section) → no_start bare ss ≡ None → bare ≡ false → list_any (is_named sys_init) ss ≡ true
start_is true ss e f = absurd cc
start_is false ss e f = by_test (list_any (is_named sys_init) ss) e
  where
    by_test : (b : Bool) → (if b then None else Some NoSysInit) ≡ None → b ≡ true
    by_test true e = refl
    by_test false e = absurd cc

some_and : (n : ℕ) (o : Option ℕ) → is_some o ≡ true → ((p : ℕ) → o ≡ Some p → p < n) → IsSomeAnd o (λ k. k < n)
some_and n None h f = absurd cc
some_and n (Some p) h f = f p refl

begins : (b : Bool) (ss ks : List Section) → AreKept b ss ks → no_start b ss ≡ None → b ≡ false → IsSomeAnd (position_from (is_named sys_init) 0 ks) (λ p. p < length ks)
begins true ss ks k e f = absurd cc
begins false ss ks k e f = some_and (length ks) (position_from (is_named sys_init) 0 ks) (position_there (is_named sys_init) 0 ks ∙ start_kept ss ks k (start_is false ss e refl))
    (λ p e. let b : p < 0 + length ks = position_below (is_named sys_init) 0 ks p e in omega arith)

-- the parts of a text without faults
text_labels : (bare : Bool) (ss : List Section) → text_fault bare ss ≡ None → first_of no_label ss ≡ None
text_labels bare ss e = map_none NoLabel (first_of no_label ss)
    (or_none_left (option_map NoLabel (first_of no_label ss)) (no_start bare ss)
    (or_none_right (option_map LabelTwice (first_of label_twice ss)) (option_or (option_map NoLabel (first_of no_label ss)) (no_start bare ss))
    (or_none_right (option_map TwiceDefined (first_repeat (names ss))) _ e)))

text_start : (bare : Bool) (ss : List Section) → text_fault bare ss ≡ None → no_start bare ss ≡ None
text_start bare ss e =
    or_none_right (option_map NoLabel (first_of no_label ss)) (no_start bare ss)
    (or_none_right (option_map LabelTwice (first_of label_twice ss)) (option_or (option_map NoLabel (first_of no_label ss)) (no_start bare ss))
    (or_none_right (option_map TwiceDefined (first_repeat (names ss))) _ e))

section_sound : (bare : Bool) (ss ks : List Section) → text_fault bare ss ≡ None → AreKept bare ss ks → first_of (no_function ss) ks ≡ None
    → ((i : ℕ) (s : Section) → slice_get ks i ≡ Some s → words_before ks s.file + words_of_lines s.lines ≤ 240)
    → (i : ℕ) (s : Section) → slice_get ks i ≡ Some s → IsSoundFunction (length ks) (function_of ks s)
section_sound bare ss ks text k calls_none room i s e =
    let there = kept_at bare ss ks k i s e in
    let labels_none = text_labels bare ss text in
    function_sound ks s (good_lines ss ks s s.lines (first_at no_label ss there.0 s labels_none there.1) (first_at (no_function ss) ks i s calls_none e)
    (closed bare ss ks k i s e) (room i s e))

pub linked_sound : (bare : Bool) (files : List File) (ks : List Section) → text_fault bare (sections.sections bare files) ≡ None → AreKept bare (sections.sections bare files) ks
    → kept_fault (length files) (sections.sections bare files) ks ≡ None → IsSound (linked_of bare files ks)
linked_sound bare files ks text k fault =
    let ss = sections.sections bare files in
    let n = length_mapped (function_of ks) ks in
    let calls_none = map_none NoFunction (first_of (no_function ss) ks) (or_none_left _ _ fault) in
    record {
      each = subst (λ m. All (IsSoundFunction m) (map (function_of ks) ks)) (sym n)
          (each_all (IsSoundFunction (length ks)) (map (function_of ks) ks)
          (each_mapped (IsSoundFunction (length ks)) (function_of ks) ks (section_sound bare ss ks text k calls_none (room_at bare files ks k fault))));
      start = λ f. subst (λ m. IsSomeAnd (position_from (is_named sys_init) 0 ks) (λ p. p < m)) (sym n)
          (begins bare ss ks k (text_start bare ss text) f);
    }

pub sound_if : (bare : Bool) (files : List File) (l : Linked) → Links bare files (Ok l) → IsSound l
sound_if bare files l (whole ks text k fault e) = subst IsSound (sym e) (linked_sound bare files ks text k fault)

pub sound_of : (bare : Bool) (files : List File) (r : Result Linked LinkFault) → Links bare files r → IfOk r IsSound
sound_of bare files (Ok l) h = sound_if bare files l h
sound_of bare files (Err e) h = tt
