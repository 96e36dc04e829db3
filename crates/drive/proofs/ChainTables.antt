-- Change 5 of document 02 over the code's own contract: by the rules' own theorems on the same calls.
use mathlib.Core.Path.{◌∙◌, ◌≡◌, ap, subst, sym}
use mathlib.Core.Bool.{true}
use Rattle.rules.specs.Demands as rules
use Rattle.rules.specs.Demands.{State}
use Rattle.rules.specs.Drive as rules_drive
use Rattle.rules.specs.Needs.{good_needs}
use Rattle.rules.specs.OperationTable.{partition_number, table_of}
use Rattle.rules.proofs.OperationTable as rules_proofs
use Rattle.drive.specs.View.{view}
use Rattle.drive.specs.Chain.{Chain, DriveState}
use Rattle.drive.specs.ChainTables.{AllOfGoodReached, AllOfTableMoves}
use Rattle.drive.proofs.Calls.{calls_of, chain_after, formatted}
use Rattle.drive.proofs.ChainSteps.{four}

pub table_moves : AllOfTableMoves
table_moves s c m =
    let t = rules_proofs.table_moves (view s.drive) s.medium c.call (four s.drive) in
    record {
      loads = λ e o. let l = t.loads (sym m.row ∙ e) o in (ap (λ (d : rules_drive.Drive). table_of d (partition_number c.call)) m.drive ∙ l.0, l.1);
      others = λ p e. ap (λ (d : rules_drive.Drive). table_of d p) m.drive ∙ t.others p e;
      stays = λ e p. ap (λ (d : rules_drive.Drive). table_of d p) m.drive ∙ t.stays (λ z o. e (m.row ∙ z) o) p;
    }

pub good_reached : AllOfGoodReached
good_reached medium F master key r zeroed calls made before later e p =
    subst (λ (u : State). good_needs (table_of u.drive p) ≡ true)
    (chain_after s before later (subst (Chain s) e made.chain))
    (subst (λ (u : State). good_needs (table_of (rules.after u (calls_of before)).drive p) ≡ true)
    (formatted medium F master key r zeroed made.format) (rules_proofs.good_reached medium F master key (calls_of before) p))
  where
    s : DriveState
    s = record { drive = r.drive; medium = zeroed }
