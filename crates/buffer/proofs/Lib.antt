-- Laws of texts in a buffer.
pub mod Buffer
