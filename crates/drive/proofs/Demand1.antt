-- Demand 1 over the code's own contract: from `GateMet` alone.
use mathlib.Core.Path.{◌∙◌, ◌≡◌, subst, sym}
use mathlib.Core.Logic.{◌⊎◌}
use mathlib.Core.List.{Memᴰ}
use Prim.Native.Nat.{ℕ}
use Rattle.rules.specs.Demands.{MarkAndOutlived}
use Rattle.rules.specs.Drive as rules
use Rattle.rules.specs.Rows.{gate_rows}
use Rattle.rules.proofs.Answers as rules_proofs
use Rattle.drive.specs.View.{view}
use Rattle.drive.specs.Chain.{AllOfDemand1}

pub demand1 : AllOfDemand1
demand1 s c m =
    let t = rules_proofs.demand1 (view s.drive) s.medium c.call in
    record {
      row = subst (λ (n : ℕ). (n ≡ 0) ⊎ Memᴰ n gate_rows) (sym m.row) t.row;
      length = λ e. m.length ∙ t.length (λ z. e (m.row ∙ z));
      space = λ e. m.space ∙ t.space (λ z. e (m.row ∙ z));
      medium = λ e. m.medium ∙ t.medium (λ z. e (m.row ∙ z));
      drive = λ e. subst (λ (d : rules.Drive). MarkAndOutlived (view s.drive) d) (sym m.drive)
          (t.drive (λ z. e (m.row ∙ z)));
      unchanged = m.unchanged;
      refreshed = λ e f. m.drive ∙ t.refreshed (λ z. e (m.row ∙ z)) (λ z. f (m.row ∙ z));
      keys = m.keys;
      tables = m.tables;
    }
