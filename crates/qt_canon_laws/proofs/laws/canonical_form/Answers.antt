use Rattle.qt_canon_laws.proofs.FirstEntries.{some_first_entry, first_entry_of_some}
use Rattle.qt_canon_laws.proofs.Forms.{form_same, taken_same, canonical_product}
use Rattle.qt_canon_laws.proofs.Existence.{form_exists, canonical_some}
use Rattle.qt_canon_laws.proofs.Scale.{scale_is_norm}
use Rattle.qt_canon_laws.proofs.laws.canonical_form.Goals as goal

pub returns-clause-exists : goal.returns-clause-exists
returns-clause-exists c = λ v. (λ e. form_exists v (some_first_entry v e), λ f. first_entry_of_some v (canonical_some v f.0 f.1.0 f.1.1))

pub returns-clause-one : goal.returns-clause-one
returns-clause-one c = λ v u w k l a b. (form_same v u w k l a b, taken_same v u w k l a b)

pub returns-clause-product : goal.returns-clause-product
returns-clause-product c = canonical_product

pub returns-clause-scale : goal.returns-clause-scale
returns-clause-scale c = scale_is_norm
