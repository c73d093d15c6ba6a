-- What a buffer holds of a text that is put into it.
pub mod Buffer
pub mod Writer
