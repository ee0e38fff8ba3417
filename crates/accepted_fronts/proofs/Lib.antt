pub mod Alike
pub mod RuleParts
pub mod ProblemParts
pub mod Closing
pub mod Cuts
pub mod Passing
pub mod Fronts
