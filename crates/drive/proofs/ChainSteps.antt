-- Change 3 of document 02 over the code's own contract: by the rules' own theorems on the same calls.
use mathlib.Core.Path.{◌∙◌, ◌≡◌, subst, sym}
use Prim.Native.Nat.{ℕ}
use lib.ListN.{length, length-map}
use Rattle.rules.specs.declared.Object.{Object}
use Rattle.rules.specs.Demands as rules
use Rattle.rules.specs.Demands.{Has, State}
use Rattle.rules.specs.Drive as rules_drive
use Rattle.rules.specs.Steps.{NewExtent, OnStep}
use Rattle.rules.proofs.Steps as rules_proofs
use Rattle.state.specs.Table.{partition_view}
use Rattle.keyring.specs.Keys.{partition_count}
use Rattle.drive.specs.declared.Drive.{Drive}
use Rattle.drive.specs.View.{tables_in, view}
use Rattle.drive.specs.Chain.{Chain, DriveState}
use Rattle.drive.specs.ChainSteps.{AllOfOnSteps, AllOfPlaces}
use Rattle.drive.proofs.Calls.{calls_of, chain_after, formatted}
use Rattle.drive.proofs.Tables.{tables-length}

-- a record has four partitions, whatever it holds
pub four : (d : Drive) → length (view d).tables.partitions ≡ 4
unfolding view
four d = length-map (tables_in partition_count d.tables) partition_view ∙ tables-length partition_count d.tables

pub places : AllOfPlaces
unfolding view
places s c m =
    let t = rules_proofs.places (view s.drive) s.medium c.call (four s.drive) in
    record {
      refused = λ e. t.refused (sym m.row ∙ e);
      granted = λ number size e o. subst (λ (d : rules_drive.Drive). NewExtent (view s.drive) d c.call number size) (sym m.drive)
          (t.granted number size (sym m.row ∙ e) o);
    }

pub on_steps : AllOfOnSteps
on_steps medium F master key r zeroed calls made before later e p a k =
    subst (λ (u : State). (p : ℕ) (a : Object) → Has (rules.after u (calls_of before)) p a → OnStep a)
    (formatted medium F master key r zeroed made.format)
    (rules_proofs.on_steps medium F master key (calls_of before)) p a
    (subst (λ (u : State). Has u p a) (sym (chain_after s before later (subst (Chain s) e made.chain))) k)
  where
    s : DriveState
    s = record { drive = r.drive; medium = zeroed }
