-- What holds of the two transforms: Butterfly (as expressions), Inverse (each undoes the other), Size (how large their results are),
-- Lists (what an answer of Done tells), Outcomes (a promise allows one outcome), Difference (of two blocks in range).
pub mod Butterfly
pub mod Inverse
pub mod Size
pub mod Lists
pub mod Outcomes
pub mod Difference
