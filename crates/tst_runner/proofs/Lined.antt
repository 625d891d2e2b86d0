-- A line, column by column.
use Rattle.std.proofs.Common.{◌≡◌, ◌<◌, ◌+◌, ℕ, zero, suc, Bool, List, [], ◌∷◌, ◌++◌, length, get_or, take, drop, refl, sym, ap, subst, ◌∙◌, add-one, arith}
use Rattle.std.specs.List.{flat_map}
use Rattle.std.proofs.Math.Seq.{drop-cons}
use Rattle.std.proofs.lemmas.Grind.{flat_map-append}
use Rattle.std.proofs.lemmas.List.{append-nil, append_assoc, take_more, take-append-drop}
use Rattle.gate_sim.specs.Calls.{Call}
use Rattle.script_columns.specs.Columns.{column_text, value_text}
use Rattle.script_device.specs.Devices.{Device, Source, Denotes, SeesAll, value_of}
use Rattle.script_device.specs.Running.{CanSee, probe_source}
use Rattle.script_parser.specs.declared.tree.Item.{Item}
use Rattle.tst_runner.specs.declared.lines.Column.{Column}
use Rattle.tst_runner.specs.Lines.{AreMeant, IsLine, IsNameless, columns, values_of}
use Rattle.tst_runner.specs.Inner.Columns.{AreColumns, IsColumn}

-- ---- the line of columns

abbrev pub cell : Device → List Call → (ℕ → ℕ → Bool) → Column → List ℕ
cell d told v column = column_text column.layout (value_text column.layout.format (value_of d told v (probe_source column.probe)))

abbrev pub line_of : Device → List Call → (ℕ → ℕ → Bool) → List Column → List ℕ
line_of d told v columns = (124 ∷ []) ++ flat_map (cell d told v) columns

-- the item at a place, as the loop takes it
pub next : {A : Type 0} (items : List A) (i : ℕ) (item : A) → i < length items → item ≡ get_or items i item → take i items ++ item ∷ [] ≡ take (i + 1) items
next items i item h e = ap (λ x. take i items ++ x ∷ []) e ∙ sym (take_more items i item h)

-- one more column
pub one_more : (d : Device) (told : List Call) (v : ℕ → ℕ → Bool) (columns : List Column) (column : Column) → line_of d told v columns ++ cell d told v column ≡ line_of d told v (columns ++ column ∷ [])
one_more d told v columns column =
    append_assoc (124 ∷ []) (flat_map (cell d told v) columns) (cell d told v column)
    ∙ ap (λ t. (124 ∷ []) ++ t) (ap (λ t. flat_map (cell d told v) columns ++ t) (sym (append-nil (cell d told v column))) ∙ sym (flat_map-append (cell d told v) columns (column ∷ [])))

-- ---- the items that columns show

-- what a column among them shows can be seen
pub seen_at : (d : Device) (items : List Item) (columns : List Column) (i : ℕ) (column : Column) → AreColumns d items columns → i < length columns → column ≡ get_or columns i column → CanSee d column.probe
seen_at d items [] i column are h e = absurd (omega (arith, h))
seen_at d [] (x ∷ columns) i column are h e = absurd are
seen_at d (item ∷ items) (x ∷ columns) zero column are h e = subst (λ y. CanSee d y.probe) (sym e) (item.variable.text, are.0.1)
seen_at d (item ∷ items) (x ∷ columns) (suc i) column are h e = seen_at d items columns i column are.1 (omega (arith, h)) e

pub sources : List Column → List Source
sources [] = []
sources (column ∷ columns) = probe_source column.probe ∷ sources columns

pub meant : (d : Device) (items : List Item) (columns : List Column) → AreColumns d items columns → AreMeant d items (sources columns)
unfolding sources
meant d [] [] are = tt
meant d [] (column ∷ columns) are = absurd are
meant d (item ∷ items) [] are = absurd are
meant d (item ∷ items) (column ∷ columns) are = (are.0.1, meant d items columns are.1)

-- their cells are those of the items' values
cells : (d : Device) (told : List Call) (v : ℕ → ℕ → Bool) (items : List Item) (shown : List Column) → AreColumns d items shown → flat_map (cell d told v) shown ≡ columns items (values_of d told v (sources shown))
unfolding sources
cells d told v [] [] are = refl
cells d told v [] (column ∷ shown) are = absurd are
cells d told v (item ∷ items) [] are = absurd are
cells d told v (item ∷ items) (column ∷ shown) are =
    let value = value_of d told v (probe_source column.probe) in
    ap (λ l. column_text l (value_text l.format value) ++ flat_map (cell d told v) shown) are.0.0 ∙ ap (λ t. column_text item.layout (value_text item.layout.format value) ++ t) (cells d told v items shown are.1)

pub shows_line : (d : Device) (items : List Item) (shown : List Column) (line : List ℕ) → (told : List Call) × ((v : ℕ → ℕ → Bool) × SeesAll d told v) → ((told : List Call) (v : ℕ → ℕ → Bool) → SeesAll d told v → line ≡ line_of d told v shown) → AreColumns d items shown → IsLine d items line
shows_line d items shown line there is are = record {
  there = there;
  is = λ told v sees. (sources shown, meant d items shown are, is told v sees ∙ ap (λ t. (124 ∷ []) ++ t) (cells d told v items shown are));
}

-- ---- finding columns

pub column_behind : (d : Device) (items : List Item) (shown : List Column) (item : Item) (column : Column) → AreColumns d items shown → IsColumn d item column → AreColumns d (items ++ item ∷ []) (shown ++ column ∷ [])
column_behind d [] [] item column all is = (is, tt)
column_behind d [] (x ∷ shown) item column all is = absurd all
column_behind d (y ∷ items) [] item column all is = absurd all
column_behind d (y ∷ items) (x ∷ shown) item column all is = (all.0, column_behind d items shown item column all.1 is)

split : (items : List Item) (i : ℕ) (item : Item) → i < length items → item ≡ get_or items i item → items ≡ take i items ++ item ∷ drop (i + 1) items
split items i item h e = sym (take-append-drop i items) ∙ ap (λ t. take i items ++ t) (drop-cons items i item h ∙ ap (λ x. x ∷ drop (suc i) items) (sym e)) ∙ ap (λ n. take i items ++ item ∷ drop n items) (sym (add-one i))

pub nameless_at : (d : Device) (items : List Item) (shown : List Column) (i : ℕ) (item : Item) → i < length items → item ≡ get_or items i item → AreColumns d (take i items) shown → ((source : Source) → Denotes d item.variable.text source → ⊥) → IsNameless d items item
nameless_at d items shown i item h e are un = record { earlier = take i items; later = drop (i + 1) items; are = split items i item h e; meant = (sources shown, meant d (take i items) shown are); unmeant = un }
