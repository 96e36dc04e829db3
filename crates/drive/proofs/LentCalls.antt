-- Demands 1 and 3, the story and the theorems beside them, of lent calls: a list of them is one of calls by value, whose theorems
-- say the rest.
use mathlib.Core.Path.{refl}
use mathlib.Core.List.{[], ◌∷◌, List, map}
use Prim.Native.Nat.{ℕ}
use Rattle.drive.specs.declared.Drive.{Drive}
use Rattle.drive.specs.Chain.{Chain, DriveState, MadeFromFormat}
use Rattle.drive.specs.Lent.{
  formatted_with,
  LentCall,
  LentChain,
  left_by_lent,
  LentFromFormat,
  made_from,
  AllOfLentDemand1,
  AllOfLentDemand3,
  AllOfLentStory,
  AllOfLentOnlyRepeats,
  AllOfLentPlaces,
  AllOfLentOnSteps,
  AllOfLentTableMoves,
  AllOfLentGoodReached,
  AllOfLentThroughGroup,
}
use Rattle.drive.proofs.Demand1.{demand1}
use Rattle.drive.proofs.Demand3.{demand3}
use Rattle.drive.proofs.ChainStory.{story}
use Rattle.drive.proofs.ChainRepeats.{only_repeats}
use Rattle.drive.proofs.ChainSteps.{on_steps, places}
use Rattle.drive.proofs.ChainTables.{good_reached, table_moves}
use Rattle.drive.proofs.ChainGroups.{through_group}

lent-chain : (s : DriveState) (calls : List LentCall) → LentChain s calls → Chain s (map made_from calls)
unfolding LentChain Chain
lent-chain s [] k = k
lent-chain s (c ∷ cs) k = (k.0, lent-chain (left_by_lent c) cs k.1)

pub lent-made : (medium : List ℕ) (F : ℕ) (master key : List ℕ) (d : Drive) (zeroed : List ℕ) (calls : List LentCall)
    → LentFromFormat medium F master key d zeroed calls
    → MadeFromFormat medium F master key (formatted_with 0 d) zeroed (map made_from calls)
lent-made medium F master key d zeroed calls made = record {
  format = made.format;
  row = refl;
  chain = lent-chain (record { drive = d; medium = zeroed }) calls made.chain;
}

pub lent_demand1 : AllOfLentDemand1
lent_demand1 s c m = demand1 s (made_from c) m

pub lent_demand3 : AllOfLentDemand3
lent_demand3 medium F master key d zeroed calls made =
    demand3 medium F master key (formatted_with 0 d) zeroed (map made_from calls) (lent-made medium F master key d zeroed calls made)

pub lent_story : AllOfLentStory
lent_story medium F master key d zeroed calls made =
    story medium F master key (formatted_with 0 d) zeroed (map made_from calls) (lent-made medium F master key d zeroed calls made)

pub lent_only_repeats : AllOfLentOnlyRepeats
lent_only_repeats medium F master key d zeroed calls made =
    only_repeats medium F master key (formatted_with 0 d) zeroed (map made_from calls) (lent-made medium F master key d zeroed calls made)

pub lent-places : AllOfLentPlaces
lent-places s c m = places s (made_from c) m

pub lent_on_steps : AllOfLentOnSteps
lent_on_steps medium F master key d zeroed calls made =
    on_steps medium F master key (formatted_with 0 d) zeroed (map made_from calls) (lent-made medium F master key d zeroed calls made)

pub lent-table_moves : AllOfLentTableMoves
lent-table_moves s c m = table_moves s (made_from c) m

pub lent_good_reached : AllOfLentGoodReached
lent_good_reached medium F master key d zeroed calls made =
    good_reached medium F master key (formatted_with 0 d) zeroed (map made_from calls) (lent-made medium F master key d zeroed calls made)

pub lent_through_group : AllOfLentThroughGroup
lent_through_group s c m = through_group s (made_from c) m
