-- The document's own steps, one after another: Document for the inverse DCT, DocumentWht for the inverse 4x4 WHT.
pub mod Document
pub mod DocumentWht
