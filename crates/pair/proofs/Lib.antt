-- Laws of the rules, as the code meets them.
pub mod ByteLaws
pub mod FoundLaws
pub mod HeadLaws
pub mod PlanLaws
pub mod RecordLaws
pub mod SaidLaws
pub mod ShapeLaws
pub mod TurnLaws
pub mod UnitLaws
pub mod VerdictLaws
pub mod WalkLaws
