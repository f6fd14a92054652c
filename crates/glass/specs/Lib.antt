-- What the contracts of glass cite.
--     Cuts     what a command leaves where writing its event fails
pub mod Cuts
