-- Laws for the loops over fields.
mod FieldLaws
