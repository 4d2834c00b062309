pub mod WaitLemmas
pub mod OneReport
pub mod ExactWait
pub mod RankLemmas
pub mod FillLemmas
pub mod WaitOrder
pub mod KeyLemmas
pub mod ForCallers
