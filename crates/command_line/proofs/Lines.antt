-- From the matches of `clap` to lines.
use Rattle.std.proofs.Common.{◌≡◌, ◌≢◌, ◌+◌, ◌*◌, [], ℕ, Bool, List, Option, Some, None, true, false, refl, sym, ◌∙◌, ap, subst, codes, inl, inr, nat_eq, slice_index}
use Rattle.std.proofs.lemmas.Bool.{eqb-false}
use Rattle.std.specs.Borrow.{Bor}
use Rattle.std.specs.Prelude.{MatchOption}
use Rattle.std.specs.Str.Parse.{digits_value}
use Rattle.clap.specs.Kinds.{HasKind, Kinds}
use Rattle.clap.specs.Walk.{Row, Text, first_of}
use Rattle.clap.specs.Simple.{App, is_simple, subcommand_of}
use Rattle.clap.specs.Faults.{fault_of, is_simple_and_free}
use Rattle.clap.specs.Values.{kind_of}
use Rattle.clap.specs.declared.error.ErrorKind.TheVariants as kind
use Rattle.clap.specs.declared.Error.{Error}
use Rattle.clap.proofs.OnLiterals.{clap_on_literals}
use Rattle.machine_io.specs.declared.report.Show.{Show}
use Rattle.machine_io.specs.declared.report.Show.TheVariants as shows
use Rattle.command_line.specs.Point.{before, behind}
use Rattle.command_line.specs.Table.{debug_command, map_command, run_command, soak_command, source_command, table, test_command, vm_command}
use Rattle.command_line.specs.declared.request.MapFormat.{MapFormat}
use Rattle.command_line.specs.declared.request.MapFormat.TheVariants as formats
use Rattle.command_line.specs.declared.request.RunLevel.{RunLevel}
use Rattle.command_line.specs.declared.request.RunLevel.TheVariants as levels
use Rattle.command_line.specs.declared.request.Shown.{Shown}
use Rattle.command_line.specs.declared.request.Shown.TheVariants.{Words, Nets}
use Rattle.command_line.specs.declared.request.SourceKind.{SourceKind}
use Rattle.command_line.specs.Line.{AreOneLine, ClassWork, FileWork, HasClassWork, HasFileWork, HasValues, IsFormatOf, is_simplified, IsInRange, IsLine, IsPointWord, IsReading, Line, NumberIn, PointIn, ReadsFormat, ReadsPoint, Source, asm, build, chip, class_command, of_classes, command_of, compile, debug, exec, of_file, file_command, flag_word, format_number, kind_of as source_kind, level_word, map_image, run, show, shown_at, shown_word, soak, test, vm}

-- ---- the names of the commands, which differ in their first letter or in their second

abbrev letters : Text → ℕ
letters t = 256 * slice_index t 0 + slice_index t 1

-- texts with other letters are not the same
apart : (t u : Text) → nat_eq (letters t) (letters u) ≡ false → t ≡ u → ⊥
apart t u other same = eqb-false (letters t) (letters u) other (ap letters same)

abbrev Differ : Text → Text → Type 0
Differ t u = nat_eq (letters t) (letters u) ≡ false

-- a name that is none of a work with classes, and one that is none of a work with one file
no_class : (name : Text) → Differ name (codes "compile") → Differ name (codes "build") → Differ name (codes "map") → Differ name (codes "run") → Differ name (codes "debug") → (work : ClassWork) → name ≡ class_command work → ⊥
no_class name c b m r d compile e = apart name (codes "compile") c e
no_class name c b m r d build e = apart name (codes "build") b e
no_class name c b m r d (map_image format) e = apart name (codes "map") m e
no_class name c b m r d (run level cycles keys) e = apart name (codes "run") r e
no_class name c b m r d (debug sub number cycles keys) e = apart name (codes "debug") d e

no_file : (name : Text) → Differ name (codes "asm") → Differ name (codes "exec") → Differ name (codes "show") → (work : FileWork) → name ≡ file_command work → ⊥
no_file name a x s asm e = apart name (codes "asm") a e
no_file name a x s (exec cycles from to) e = apart name (codes "exec") x e
no_file name a x s (show kind) e = apart name (codes "show") s e

-- the command of a work with classes is that of no other line
no_file_class : (v : FileWork) (w : ClassWork) → file_command v ≡ class_command w → ⊥
no_file_class asm w e = no_class (codes "asm") refl refl refl refl refl w e
no_file_class (exec cycles from to) w e = no_class (codes "exec") refl refl refl refl refl w e
no_file_class (show kind) w e = no_class (codes "show") refl refl refl refl refl w e

abbrev IsOfClasses : Line → Type 0
IsOfClasses (of_classes source work) = Unit {0}
IsOfClasses line = ⊥

of_classes_alone : (w : ClassWork) (l : Line) → command_of l ≡ class_command w → IsOfClasses l
of_classes_alone w (of_classes source work) e = tt
of_classes_alone w (of_file path work) e = no_file_class work w e
of_classes_alone w (vm folder bare) e = no_class (codes "vm") refl refl refl refl refl w e
of_classes_alone w (chip name) e = no_class (codes "chip") refl refl refl refl refl w e
of_classes_alone w (test path gates simplify) e = no_class (codes "test") refl refl refl refl refl w e
of_classes_alone w (soak seed count) e = no_class (codes "soak") refl refl refl refl refl w e

-- nor is that of a work with one file
abbrev IsOfFile : Line → Type 0
IsOfFile (of_file path work) = Unit {0}
IsOfFile line = ⊥

of_file_alone : (w : FileWork) (l : Line) → command_of l ≡ file_command w → IsOfFile l
of_file_alone w (of_classes source work) e = no_file_class w work (sym e)
of_file_alone w (of_file path work) e = tt
of_file_alone w (vm folder bare) e = no_file (codes "vm") refl refl refl w e
of_file_alone w (chip name) e = no_file (codes "chip") refl refl refl w e
of_file_alone w (test path gates simplify) e = no_file (codes "test") refl refl refl w e
of_file_alone w (soak seed count) e = no_file (codes "soak") refl refl refl w e

-- ---- the matches of a command are those of its own lines only

-- each line but one of `chip` and one of `soak` has a path
pub no_path : (name : Text) (rows : List Row) → first_of (codes "path") rows ≡ None → Differ name (codes "chip") → Differ name (codes "soak") → (l : Line) → ¬ IsReading name rows l
no_path name rows none other apart_too (of_classes source work) h = let gone = h.1.0 in let no : ⊥ = cc in no
no_path name rows none other apart_too (of_file path work) h = let gone = h.1.0 in let no : ⊥ = cc in no
no_path name rows none other apart_too (vm folder bare) h = let gone = h.1.0 in let no : ⊥ = cc in no
no_path name rows none other apart_too (chip chosen) h = apart name (codes "chip") other h.0
no_path name rows none other apart_too (test path gates simplify) h = let gone = h.1.0 in let no : ⊥ = cc in no
no_path name rows none other apart_too (soak seed count) h = apart name (codes "soak") apart_too h.0

pub no_classes : (work : ClassWork) (rows : List Row) → first_of (codes "path") rows ≡ None → (l : Line) → ¬ IsReading (class_command work) rows l
no_classes compile rows none = no_path (codes "compile") rows none refl refl
no_classes build rows none = no_path (codes "build") rows none refl refl
no_classes (map_image format) rows none = no_path (codes "map") rows none refl refl
no_classes (run level cycles keys) rows none = no_path (codes "run") rows none refl refl
no_classes (debug sub number cycles keys) rows none = no_path (codes "debug") rows none refl refl

-- each line of a work with classes says whether they replace
pub no_replace : (work : ClassWork) (rows : List Row) → ((replace : Bool) → ¬ (first_of (codes "replace") rows ≡ Some (flag_word replace))) → (l : Line) → ¬ IsReading (class_command work) rows l
no_replace work rows none (of_classes source other) h = none source.replace h.1.1
no_replace work rows none (of_file path other) h = no_file_class other work (sym h.0)
no_replace work rows none (vm folder bare) h = no_class (codes "vm") refl refl refl refl refl work (sym h.0)
no_replace work rows none (chip name) h = no_class (codes "chip") refl refl refl refl refl work (sym h.0)
no_replace work rows none (test path gates simplify) h = no_class (codes "test") refl refl refl refl refl work (sym h.0)
no_replace work rows none (soak seed count) h = no_class (codes "soak") refl refl refl refl refl work (sym h.0)

pub no_exec : (rows : List Row) → ((cycles from to : ℕ) → ¬ HasFileWork rows [] (exec cycles from to)) → (l : Line) → ¬ IsReading (codes "exec") rows l
no_exec rows none (of_file path (exec c f t)) h = none c f t h.1.1
no_exec rows none (of_classes source work) h = no_class (codes "exec") refl refl refl refl refl work h.0
no_exec rows none l h = apart (codes "exec") (command_of l) refl h.0

pub no_show : (rows : List Row) → ((path : Text) (kind : SourceKind) → first_of (codes "path") rows ≡ Some path → ¬ (source_kind path ≡ Some kind)) → (l : Line) → ¬ IsReading (codes "show") rows l
no_show rows none (of_file path (show kind)) h = none path kind h.1.0 h.1.1
no_show rows none (of_classes source work) h = no_class (codes "show") refl refl refl refl refl work h.0
no_show rows none l h = apart (codes "show") (command_of l) refl h.0

pub no_vm : (rows : List Row) → ((bare : Bool) → ¬ (first_of (codes "bare") rows ≡ Some (flag_word bare))) → (l : Line) → ¬ IsReading (codes "vm") rows l
no_vm rows none (vm folder bare) h = none bare h.1.1
no_vm rows none (of_classes source work) h = no_class (codes "vm") refl refl refl refl refl work h.0
no_vm rows none (of_file path work) h = no_file (codes "vm") refl refl refl work h.0
no_vm rows none l h = apart (codes "vm") (command_of l) refl h.0

pub no_test : (rows : List Row) → ((gates : Bool) → ¬ (first_of (codes "gates") rows ≡ Some (flag_word gates))) → (l : Line) → ¬ IsReading (codes "test") rows l
no_test rows none (test path gates simplify) h = none gates h.1.1
no_test rows none (of_classes source work) h = no_class (codes "test") refl refl refl refl refl work h.0
no_test rows none (of_file path work) h = no_file (codes "test") refl refl refl work h.0
no_test rows none l h = apart (codes "test") (command_of l) refl h.0

pub no_simple_test : (rows : List Row) → ((simplify : Bool) → ¬ (first_of (codes "simplify") rows ≡ Some (flag_word simplify))) → (l : Line) → ¬ IsReading (codes "test") rows l
no_simple_test rows none (test path gates simplify) h = none simplify h.1.2
no_simple_test rows none (of_classes source work) h = no_class (codes "test") refl refl refl refl refl work h.0
no_simple_test rows none (of_file path work) h = no_file (codes "test") refl refl refl work h.0
no_simple_test rows none l h = apart (codes "test") (command_of l) refl h.0

pub no_run : (rows : List Row) → ((level : RunLevel) (n : ℕ) (keys : Option Text) → ¬ HasClassWork rows (run level n keys)) → (l : Line) → ¬ IsReading (codes "run") rows l
no_run rows none (of_classes source (run level n keys)) h = none level n keys h.1.2
no_run rows none (of_file path work) h = no_file (codes "run") refl refl refl work h.0
no_run rows none l h = apart (codes "run") (command_of l) refl h.0

pub no_map : (rows : List Row) → ((format : MapFormat) → ¬ NumberIn rows (codes "format") 2 (format_number format)) → (l : Line) → ¬ IsReading (codes "map") rows l
no_map rows none (of_classes source (map_image format)) h = none format h.1.2
no_map rows none (of_classes source compile) h = apart (codes "map") (codes "compile") refl h.0
no_map rows none (of_classes source build) h = apart (codes "map") (codes "build") refl h.0
no_map rows none (of_classes source (run level n keys)) h = apart (codes "map") (codes "run") refl h.0
no_map rows none (of_classes source (debug sub k n keys)) h = apart (codes "map") (codes "debug") refl h.0
no_map rows none (of_file path work) h = no_file (codes "map") refl refl refl work h.0
no_map rows none l h = apart (codes "map") (command_of l) refl h.0

pub no_debug : (rows : List Row) → ((sub : Text) (number n : ℕ) (keys : Option Text) → ¬ HasClassWork rows (debug sub number n keys)) → (l : Line) → ¬ IsReading (codes "debug") rows l
no_debug rows none (of_classes source (debug sub number n keys)) h = none sub number n keys h.1.2
no_debug rows none (of_file path work) h = no_file (codes "debug") refl refl refl work h.0
no_debug rows none l h = apart (codes "debug") (command_of l) refl h.0

pub no_chip : (rows : List Row) → first_of (codes "name") rows ≡ None → (l : Line) → ¬ IsReading (codes "chip") rows l
no_chip rows none (chip name) h = let gone = h.1 in let no : ⊥ = cc in no
no_chip rows none (of_classes source work) h = no_class (codes "chip") refl refl refl refl refl work h.0
no_chip rows none (of_file path work) h = no_file (codes "chip") refl refl refl work h.0
no_chip rows none l h = apart (codes "chip") (command_of l) refl h.0

pub no_soak : (rows : List Row) → ((seed count : ℕ) → ¬ HasValues rows (soak seed count)) → (l : Line) → ¬ IsReading (codes "soak") rows l
no_soak rows none (soak seed count) h = none seed count h.1
no_soak rows none (of_classes source work) h = no_class (codes "soak") refl refl refl refl refl work h.0
no_soak rows none (of_file path work) h = no_file (codes "soak") refl refl refl work h.0
no_soak rows none l h = apart (codes "soak") (command_of l) refl h.0

-- ---- the table

pub table_is_free : is_simple_and_free table ≡ true
unfolding clap_on_literals debug_command map_command run_command soak_command source_command test_command vm_command
table_is_free = refl

pub table_is_simple : is_simple table ≡ true
unfolding clap_on_literals debug_command map_command run_command soak_command source_command test_command vm_command
table_is_simple = refl

-- the matches are those of a line
pub ok_line : (a : App) (ws : List Text) (s : Option (Text × List Row)) (l : Line) → a ≡ table
    → (is_simple_and_free a ≡ true → fault_of a ws ≡ []) → (is_simple a ≡ true → s ≡ subcommand_of a ws)
    → (name : Text) × (rows : List Row) × (s ≡ Some (name, rows)) × IsReading name rows l → IsLine ws l
ok_line a ws s l is free found (name, rows, e, reading) =
    let P : App → Type 0 = λ x. (is_simple_and_free x ≡ true → fault_of x ws ≡ []) in
    let Q : App → Type 0 = λ x. (is_simple x ≡ true → s ≡ subcommand_of x ws) in
    (subst P is free table_is_free, name, rows, (sym (subst Q is found table_is_simple) ∙ e), reading)

-- the matches are those of no line
pub no_line : (a : App) (ws : List Text) (s : Option (Text × List Row)) → a ≡ table
    → (is_simple a ≡ true → s ≡ subcommand_of a ws)
    → ((l : Line) (name : Text) (rows : List Row) → s ≡ Some (name, rows) → ¬ IsReading name rows l) → (l : Line) → ¬ IsLine ws l
no_line a ws s is found none l (free, name, rows, e, reading) =
    let Q : App → Type 0 = λ x. (is_simple x ≡ true → s ≡ subcommand_of x ws) in
    none l name rows (subst Q is found table_is_simple ∙ e) reading

-- `clap` gives no matches
pub fault_line : (a : App) (ws : List Text) (e : Error) → a ≡ table → (is_simple_and_free a ≡ true → HasKind (fault_of a ws) e)
    → kind_of e ≢ kind.OutOfMemory → (l : Line) → ¬ IsLine ws l
fault_line a ws e is fails other l (free, name, rows, found, reading) =
    let P : App → Type 0 = λ x. (is_simple_and_free x ≡ true → HasKind (fault_of x ws) e) in
    let Q : Kinds → Type 0 = λ x. HasKind x e in
    let h : HasKind [] e = subst Q free (subst P is fails table_is_free) in
    elim h [ inl k ↦ other k | inr k ↦ k ]

-- ---- the numbers

pub in_range : (ws : List Text) (l : Line) → IsLine ws l → IsInRange l
in_range ws (of_classes source (run level n keys)) (free, name, rows, found, (named, values)) = values.2.1.2.small
in_range ws (of_classes source (debug sub number n keys)) (free, name, rows, found, (named, values)) = (values.2.0.2.numbered.small, values.2.1.2.small)
in_range ws (of_classes source compile) h = tt
in_range ws (of_classes source build) h = tt
in_range ws (of_classes source (map_image format)) h = tt
in_range ws (of_file path (exec c f t)) (free, name, rows, found, (named, values)) = (values.1.0.2.small, values.1.1.2.small, values.1.2.2.small)
in_range ws (of_file path asm) h = tt
in_range ws (of_file path (show kind)) h = tt
in_range ws (vm folder bare) h = tt
in_range ws (chip name) h = tt
in_range ws (test path gates simplify) h = tt
in_range ws (soak seed count) (free, name, rows, found, (named, values)) = (values.0.2.small, values.1.2.small)

-- ---- words are at most one line

same_found : {X : Type 0} (found : Option X) (x y : X) → found ≡ Some x → found ≡ Some y → x ≡ y
same_found found x y e f = cc

same_rows : (found : Option (Text × List Row)) (name other : Text) (rows others : List Row) → found ≡ Some (name, rows) → found ≡ Some (other, others) → rows ≡ others
same_rows found name other rows others e f =
    ap (λ (p : Text × List Row). p.1) (same_found {X = Text × List Row} found (name, rows) (other, others) e f)

same_name : (found : Option (Text × List Row)) (name other : Text) (rows others : List Row) → found ≡ Some (name, rows) → found ≡ Some (other, others) → name ≡ other
same_name found name other rows others e f =
    ap (λ (p : Text × List Row). p.0) (same_found {X = Text × List Row} found (name, rows) (other, others) e f)

same_number : (rows : List Row) (id : Text) (most n m : ℕ) → NumberIn rows id most n → NumberIn rows id most m → n ≡ m
same_number rows id most n m (text, e, h) (other, f, k) =
    let same : text ≡ other = cc in
    sym h.value ∙ ap (digits_value 10) same ∙ k.value

same_word : (rows : List Row) (id text other : Text) → first_of id rows ≡ Some text → first_of id rows ≡ Some other → text ≡ other
same_word rows id text other e f = cc

-- a word is that of one statement
same_sub : (rows : List Row) (sub sub' : Text) (k k' : ℕ) → PointIn rows sub k → PointIn rows sub' k' → sub ≡ sub'
same_sub rows sub sub' k k' (word, e, h) (other, f, j) =
    let same : word ≡ other = cc in
    h.is_sub ∙ ap (before 58) same ∙ sym j.is_sub

same_statement : (rows : List Row) (sub sub' : Text) (k k' : ℕ) → PointIn rows sub k → PointIn rows sub' k' → k ≡ k'
same_statement rows sub sub' k k' (word, e, h) (other, f, j) =
    let same : word ≡ other = cc in
    sym h.numbered.value ∙ ap (λ w. digits_value 10 (behind 58 w)) same ∙ j.numbered.value

-- the statement that is read
pub reads_point : (rows : List Row) (word : Text) (r : Option (Bor Text × ℕ)) → first_of (codes "break") rows ≡ Some word
    → MatchOption r ((sub : List ℕ) (k : ℕ) → ¬ IsPointWord word sub k) (λ p. IsPointWord word p.0.now p.1) → ReadsPoint rows r
reads_point rows word (Some p) e h = (word, e, h)
reads_point rows word None e none = λ sub k (other, f, h).
    let same : other ≡ word = cc in
    none sub k (subst (λ w. IsPointWord w sub k) same h)

-- the words for what is shown differ in their first two letters
nets_apart : (s : Show) → shown_word (Words s) ≡ shown_word Nets → ⊥
nets_apart shows.Nothing e = apart (codes "none") (codes "nets") refl e
nets_apart shows.Heap e = apart (codes "heap") (codes "nets") refl e
nets_apart shows.Screen e = apart (codes "screen") (codes "nets") refl e

same_shown : (s u : Shown) → shown_word s ≡ shown_word u → s ≡ u
same_shown (Words shows.Nothing) (Words shows.Nothing) e = refl
same_shown (Words shows.Heap) (Words shows.Heap) e = refl
same_shown (Words shows.Screen) (Words shows.Screen) e = refl
same_shown Nets Nets e = refl
same_shown Nets (Words u) e = absurd (nets_apart u (sym e))
same_shown (Words s) Nets e = absurd (nets_apart s e)
same_shown s u e = absurd (apart (shown_word s) (shown_word u) refl e)

-- so do those for the levels
same_level : (l m : RunLevel) → level_word l ≡ level_word m → shown_at l ≡ shown_at m → is_simplified l ≡ is_simplified m → l ≡ m
same_level (levels.Jack s) (levels.Jack u) e f g = cc
same_level (levels.Vm s) (levels.Vm u) e f g = cc
same_level (levels.Hack s) (levels.Hack u) e f g = cc
same_level (levels.Gates s) (levels.Gates u) e f g = cc
same_level (levels.Simplified s) (levels.Simplified u) e f g = cc
same_level (levels.Gates s) (levels.Simplified u) e f g = absurd (let no : ⊥ = cc in no)
same_level (levels.Simplified s) (levels.Gates u) e f g = absurd (let no : ⊥ = cc in no)
same_level l m e f g = absurd (apart (level_word l) (level_word m) refl e)

-- the form that has the number that is read
pub reads_format : (rows : List Row) (n : ℕ) (r : Option MapFormat) → NumberIn rows (codes "format") 2 n → IsFormatOf n r → ReadsFormat rows r
reads_format rows n (Some format) is e = subst (NumberIn rows (codes "format") 2) e is
reads_format rows n None is none = λ format h. none format (same_number rows (codes "format") 2 n (format_number format) is h)

same_format : (f g : MapFormat) → format_number f ≡ format_number g → f ≡ g
same_format formats.Points formats.Points e = refl
same_format formats.Places formats.Places e = refl
same_format formats.Points formats.Places e = let no : ⊥ = cc in absurd no
same_format formats.Places formats.Points e = let no : ⊥ = cc in absurd no

same_flag : (b c : Bool) → flag_word b ≡ flag_word c → b ≡ c
same_flag true true e = refl
same_flag false false e = refl
same_flag b c e = absurd (apart (flag_word b) (flag_word c) refl e)

same_kind : (p q : Text) (i j : SourceKind) → p ≡ q → source_kind p ≡ Some i → source_kind q ≡ Some j → i ≡ j
same_kind p q i j path e f =
    let both : Some i ≡ Some j = sym e ∙ ap source_kind path ∙ f in
    let kind : i ≡ j = cc in kind

same_source : (s u : Source) → s.folder ≡ u.folder → s.replace ≡ u.replace → s ≡ u
same_source s u e f = λ i. record { folder = e i; replace = f i }

same_class_work : (rows : List Row) (v w : ClassWork) → HasClassWork rows v → HasClassWork rows w → class_command v ≡ class_command w → v ≡ w
same_class_work rows compile compile h k e = refl
same_class_work rows build build h k e = refl
same_class_work rows (map_image f) (map_image g) h k e = ap map_image (same_format f g (same_number rows (codes "format") 2 (format_number f) (format_number g) h k))
same_class_work rows (run l c js) (run m d ks) h k e =
    let shown : shown_at l ≡ shown_at m =
    same_shown (shown_at l) (shown_at m) (same_word rows (codes "show") (shown_word (shown_at l)) (shown_word (shown_at m)) h.3 k.3) in
    let simple : is_simplified l ≡ is_simplified m =
    same_flag (is_simplified l) (is_simplified m) (same_word rows (codes "simplify") (flag_word (is_simplified l)) (flag_word (is_simplified m)) h.4 k.4) in
    let level : l ≡ m = same_level l m (same_word rows (codes "level") (level_word l) (level_word m) h.0 k.0) shown simple in
    let cycles : c ≡ d = same_number rows (codes "cycles") 1000000000 c d h.1 k.1 in
    let keys : js ≡ ks = sym h.2 ∙ k.2 in
    cc
same_class_work rows (debug s a c js) (debug t b d ks) h k e =
    let sub : s ≡ t = same_sub rows s t a b h.0 k.0 in
    let number : a ≡ b = same_statement rows s t a b h.0 k.0 in
    let cycles : c ≡ d = same_number rows (codes "cycles") 1000000000 c d h.1 k.1 in
    let keys : js ≡ ks = sym h.2 ∙ k.2 in
    cc
same_class_work rows v w h k e = absurd (apart (class_command v) (class_command w) refl e)

same_file_work : (rows : List Row) (p q : Text) (v w : FileWork) → p ≡ q → HasFileWork rows p v → HasFileWork rows q w → file_command v ≡ file_command w → v ≡ w
same_file_work rows p q asm asm path h k e = refl
same_file_work rows p q (exec c f t) (exec d g u) path h k e =
    let cycles : c ≡ d = same_number rows (codes "cycles") 1000000000 c d h.0 k.0 in
    let from_on : f ≡ g = same_number rows (codes "from") 32767 f g h.1 k.1 in
    let up_to : t ≡ u = same_number rows (codes "to") 32767 t u h.2 k.2 in
    cc
same_file_work rows p q (show i) (show j) path h k e = ap show (same_kind p q i j path h k)
same_file_work rows p q v w path h k e = absurd (apart (file_command v) (file_command w) refl e)

same_values : (rows : List Row) (l m : Line) → HasValues rows l → HasValues rows m → command_of l ≡ command_of m → l ≡ m
same_values rows (of_classes s v) (of_classes u w) h k e =
    let replace : s.replace ≡ u.replace =
    same_flag s.replace u.replace (same_word rows (codes "replace") (flag_word s.replace) (flag_word u.replace) h.1 k.1) in
    let source : s ≡ u = same_source s u (same_word rows (codes "path") s.folder u.folder h.0 k.0) replace in
    let work : v ≡ w = same_class_work rows v w h.2 k.2 e in
    cc
same_values rows (of_file p v) (of_file q w) h k e =
    let path : p ≡ q = same_word rows (codes "path") p q h.0 k.0 in
    let work : v ≡ w = same_file_work rows p q v w path h.1 k.1 e in
    cc
same_values rows (vm p b) (vm q c) h k e =
    let folder : p ≡ q = same_word rows (codes "path") p q h.0 k.0 in
    let bare : b ≡ c = same_flag b c (same_word rows (codes "bare") (flag_word b) (flag_word c) h.1 k.1) in
    cc
same_values rows (test p b s) (test q c t) h k e =
    let path : p ≡ q = same_word rows (codes "path") p q h.0 k.0 in
    let gates : b ≡ c = same_flag b c (same_word rows (codes "gates") (flag_word b) (flag_word c) h.1 k.1) in
    let simple : s ≡ t = same_flag s t (same_word rows (codes "simplify") (flag_word s) (flag_word t) h.2 k.2) in
    cc
same_values rows (chip p) (chip q) h k e = ap chip (same_word rows (codes "name") p q h k)
same_values rows (soak s n) (soak u m) h k e =
    let seed : s ≡ u = same_number rows (codes "seed") 1000000 s u h.0 k.0 in
    let count : n ≡ m = same_number rows (codes "count") 1000 n m h.1 k.1 in
    cc
same_values rows (of_classes s v) m h k e = absurd (of_classes_alone v m (sym e))
same_values rows l (of_classes u w) h k e = absurd (of_classes_alone w l e)
same_values rows (of_file p v) m h k e = absurd (of_file_alone v m (sym e))
same_values rows l (of_file q w) h k e = absurd (of_file_alone w l e)
same_values rows l m h k e = absurd (apart (command_of l) (command_of m) refl e)

same_line : (name other : Text) (rows others : List Row) (l m : Line) → rows ≡ others → IsReading name rows l → IsReading other others m → name ≡ other → l ≡ m
same_line name other rows others l m same h k e =
    let R : List Row → Type 0 = λ r. HasValues r m in
    same_values rows l m h.1 (subst R (sym same) k.1) (sym h.0 ∙ e ∙ k.0)

pub one_line : AreOneLine
one_line words l m (_, name, rows, found, h) (_, other, others, found', k) =
    same_line name other rows others l m (same_rows (subcommand_of table words) name other rows others found found') h k
    (same_name (subcommand_of table words) name other rows others found found')
