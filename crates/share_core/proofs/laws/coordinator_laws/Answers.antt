use Rattle.share_core.proofs.CountedRuns.{lists_of_run, indices_of_run, apart_in_run, traces_of_run, done_in_run}
use Rattle.share_core.proofs.GrantedRuns.{granted_of_run}
use Rattle.share_core.proofs.SoundShares.{sound_lists}
use Rattle.share_core.proofs.laws.coordinator_laws.Goals as goal

pub returns-clause-lists : goal.returns-clause-lists
returns-clause-lists g c setting steps lists runs = lists_of_run (g.R.Ring.value setting.table.ring) setting steps lists runs

pub returns-clause-counted : goal.returns-clause-counted
returns-clause-counted g c setting steps lists runs = indices_of_run (g.R.Ring.value setting.table.ring) setting steps lists runs

pub returns-clause-once : goal.returns-clause-once
returns-clause-once g c setting steps lists runs = apart_in_run (g.R.Ring.value setting.table.ring) setting steps lists runs

pub returns-clause-granted : goal.returns-clause-granted
returns-clause-granted g c setting steps lists runs i worker =
    granted_of_run (g.R.Ring.value setting.table.ring) setting steps lists i worker runs

pub returns-clause-first : goal.returns-clause-first
returns-clause-first g c setting steps lists runs = (traces_of_run (g.R.Ring.value setting.table.ring) setting steps lists runs).first

pub returns-clause-taken : goal.returns-clause-taken
returns-clause-taken g c setting steps lists runs = (traces_of_run (g.R.Ring.value setting.table.ring) setting steps lists runs).taken

pub returns-clause-done : goal.returns-clause-done
returns-clause-done g c setting steps lists runs = done_in_run (g.R.Ring.value setting.table.ring) setting steps lists runs

pub returns-clause-sound : goal.returns-clause-sound
returns-clause-sound g c setting steps lists runs =
    let value = g.R.Ring.value setting.table.ring in
    sound_lists value setting steps lists (lists_of_run value setting steps lists runs) (traces_of_run value setting steps lists runs).first
